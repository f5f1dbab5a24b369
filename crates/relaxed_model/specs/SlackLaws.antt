-- Slacks of one row: some make a number meet its set, and all that do are together at least by how
-- much it misses the set; where they are no more, they say by how much.
--     slacks_on set v          slacks that make v meet the set
use Rattle.std.specs.Prelude.{◌≡◌, Bool, true, false, cond, List, [], ◌∷◌, length, refl}
use Rattle.std.specs.Ordering.{is_lt}
use Rattle.std.proofs.Common.{ap, ap₂, arith, subst, sym, true≢false, ◌∙◌}
use Rattle.std.proofs.lemmas.Int.{ints}
use Rattle.std.proofs.lemmas.List.Elements.{All-cons, All-head, All-nil, All-tail}
use Rattle.ratio_core.specs.Rational.{Rational, neg_ℚ, one_ℚ, rational_cmp, rational_eq, zero_ℚ, ◌*ℚ◌, ◌+ℚ◌, ◌-ℚ◌, ◌≤ℚ◌, ◌‹ℚ◌}
use Rattle.ratio_core.specs.RationalLaws.{rational_eq-false, rational_eq-true}
use Rattle.rational_laws.specs.Dot.{dot}
use Rattle.rational_laws.specs.Field.{+ℚ-zero, zero-+ℚ}
use Rattle.rational_laws.specs.Linear.{as_scaled, linear₃, linear₄, scaled_zero, scales}
use Rattle.rational_laws.specs.Order.{nonneg_from_≤ℚ, not_‹ℚ_from_≤ℚ, ≤ℚ_antisymm, ≤ℚ_from_≡, ≤ℚ_from_‹ℚ, ≤ℚ_refl, ≤ℚ_trans, ≤ℚ-+ℚ}
use Rattle.rational_laws.specs.Ring.{as_expression, by_ring, one_as, ring₁, ring₂, ring₃, zero_as}
use Rattle.rational_laws.specs.Sums.{sum_ℚ}
use Rattle.rational_laws.specs.Tests.{ge_from_failed, lt_from_test}
use Rattle.set_core.specs.declared.set.Set.{Set}
use Rattle.set_core.specs.declared.set.Set.TheVariants.{LessThan, GreaterThan, EqualTo, Interval}
use Rattle.set_core.specs.Membership.{In}
use Rattle.set_core.specs.Shapes.{is_crossed, is_scalar}
use Rattle.set_core.specs.Vectors.{AllNonnegative}
use Rattle.relaxed_model.specs.Relaxed.{excess, signs_on, slack_violation, violation}

-- ---- by how much a number is above another

excess_cases : (C : Type 0) (p q : Rational) → (p ≤ℚ q → excess p q ≡ zero_ℚ → C)
    → (q ‹ℚ p → excess p q ≡ p -ℚ q → C) → C
excess_cases C p q low high = by (is_lt (rational_cmp q p)) refl
  where
    by : (b : Bool) → is_lt (rational_cmp q p) ≡ b → C
    by true e = high (lt_from_test q p e) (ap (λ b. cond b (p -ℚ q) zero_ℚ) e)
    by false e = low (ge_from_failed q p e) (ap (λ b. cond b (p -ℚ q) zero_ℚ) e)

excess_nonneg : (p q : Rational) → zero_ℚ ≤ℚ excess p q
excess_nonneg p q =
    excess_cases (zero_ℚ ≤ℚ excess p q) p q
    (λ h e. subst (λ t. zero_ℚ ≤ℚ t) (sym e) (≤ℚ_refl zero_ℚ))
    (λ h e. subst (λ t. zero_ℚ ≤ℚ t) (sym e) (nonneg_from_≤ℚ q p (≤ℚ_from_‹ℚ q p h)))

moved_left : (p q t : Rational) → p ≤ℚ (q +ℚ t) → (p -ℚ q) ≤ℚ t
moved_left = linear₃ _ (λ a b c e h. simp as_scaled (omega (arith, ints, scales, simp as_scaled at h)))

-- what is at least 0 and takes up the difference is at least that much
excess_least : (p q t : Rational) → zero_ℚ ≤ℚ t → p ≤ℚ (q +ℚ t) → excess p q ≤ℚ t
excess_least p q t nonneg h =
    excess_cases (excess p q ≤ℚ t) p q (λ _ e. subst (λ s. s ≤ℚ t) (sym e) nonneg)
    (λ _ e. subst (λ s. s ≤ℚ t) (sym e) (moved_left p q t h))

-- ---- a number with its slacks

with_less : (v t : Rational) → v +ℚ (neg_ℚ one_ℚ *ℚ t +ℚ zero_ℚ) ≡ v -ℚ t
with_less = ring₂ _ (λ ρ. simp (as_expression, one_as ρ, zero_as ρ) (by_ring ρ _ _ refl))

with_more : (v t : Rational) → v +ℚ (one_ℚ *ℚ t +ℚ zero_ℚ) ≡ v +ℚ t
with_more = ring₂ _ (λ ρ. simp (as_expression, one_as ρ, zero_as ρ) (by_ring ρ _ _ refl))

with_both : (v s t : Rational)
    → v +ℚ (one_ℚ *ℚ s +ℚ (neg_ℚ one_ℚ *ℚ t +ℚ zero_ℚ)) ≡ (v +ℚ s) -ℚ t
with_both = ring₃ _ (λ ρ. simp (as_expression, one_as ρ, zero_as ρ) (by_ring ρ _ _ refl))

less_none : (v : Rational) → v -ℚ zero_ℚ ≡ v
less_none = ring₁ _ (λ ρ. simp (as_expression, zero_as ρ) (by_ring ρ _ _ refl))

less_difference : (v u : Rational) → v -ℚ (v -ℚ u) ≡ u
less_difference = ring₂ _ (λ ρ. simp as_expression (by_ring ρ _ _ refl))

more_difference : (v l : Rational) → v +ℚ (l -ℚ v) ≡ l
more_difference = ring₂ _ (λ ρ. simp as_expression (by_ring ρ _ _ refl))

-- ---- slacks that make a number meet a set

fits_below : (v u : Rational) → (v -ℚ excess v u) ≤ℚ u
fits_below v u =
    excess_cases ((v -ℚ excess v u) ≤ℚ u) v u
    (λ h e. subst (λ q. q ≤ℚ u) (sym (ap (λ t. v -ℚ t) e ∙ less_none v)) h)
    (λ h e. ≤ℚ_from_≡ _ _ (ap (λ t. v -ℚ t) e ∙ less_difference v u))

fits_above : (v l : Rational) → l ≤ℚ (v +ℚ excess l v)
fits_above v l =
    excess_cases (l ≤ℚ (v +ℚ excess l v)) l v
    (λ h e. subst (λ q. l ≤ℚ q) (sym (ap (λ t. v +ℚ t) e ∙ +ℚ-zero v)) h)
    (λ h e. ≤ℚ_from_≡ _ _ (sym (ap (λ t. v +ℚ t) e ∙ more_difference v l)))

abbrev moved : Rational → Rational → Rational → Rational
moved l u v = (v +ℚ excess l v) -ℚ excess v u

fits_within : (l u v : Rational) → l ≤ℚ u → (l ≤ℚ moved l u v) × (moved l u v ≤ℚ u)
fits_within l u v ordered =
    excess_cases ((l ≤ℚ moved l u v) × (moved l u v ≤ℚ u)) l v from_above from_below
  where
    inside : (q : Rational) → moved l u v ≡ q → l ≤ℚ q → q ≤ℚ u
        → (l ≤ℚ moved l u v) × (moved l u v ≤ℚ u)
    inside q e low high =
        (subst (λ q. l ≤ℚ q) (sym e) low, subst (λ q. q ≤ℚ u) (sym e) high)

    from_above : l ≤ℚ v → excess l v ≡ zero_ℚ → (l ≤ℚ moved l u v) × (moved l u v ≤ℚ u)
    from_above low none =
        excess_cases ((l ≤ℚ moved l u v) × (moved l u v ≤ℚ u)) v u
        (λ high e. inside v (ap₂ (λ s t. (v +ℚ s) -ℚ t) none e ∙ less_none (v +ℚ zero_ℚ)
        ∙ +ℚ-zero v) low high)
        (λ high e. inside u (ap₂ (λ s t. (v +ℚ s) -ℚ t) none e
        ∙ ap (λ q. q -ℚ (v -ℚ u)) (+ℚ-zero v) ∙ less_difference v u) ordered (≤ℚ_refl u))

    from_below : v ‹ℚ l → excess l v ≡ l -ℚ v → (l ≤ℚ moved l u v) × (moved l u v ≤ℚ u)
    from_below low much =
        excess_cases ((l ≤ℚ moved l u v) × (moved l u v ≤ℚ u)) v u
        (λ high e. inside l (ap₂ (λ s t. (v +ℚ s) -ℚ t) much e ∙ less_none (v +ℚ (l -ℚ v))
        ∙ more_difference v l) (≤ℚ_refl l) ordered)
        (λ high e. absurd (not_‹ℚ_from_≤ℚ v u
        (≤ℚ_trans v l u (≤ℚ_from_‹ℚ v l low) ordered) high))

-- the slacks that make v meet the set, no more than they must be
abbrev pub slacks_on : Set → Rational → List Rational
slacks_on (LessThan u) v = excess v u ∷ []
slacks_on (GreaterThan l) v = excess l v ∷ []
slacks_on (EqualTo a) v = excess a v ∷ excess v a ∷ []
slacks_on (Interval l u) v = excess l v ∷ excess v u ∷ []
slacks_on set v = []

pub length-slacks_on : (set : Set) (v : Rational)
    → length (slacks_on set v) ≡ length (signs_on set)
length-slacks_on (LessThan u) v = refl
length-slacks_on (GreaterThan l) v = refl
length-slacks_on (EqualTo a) v = refl
length-slacks_on (Interval l u) v = refl
length-slacks_on set v = refl

one_nonneg : (t : Rational) → zero_ℚ ≤ℚ t → AllNonnegative (t ∷ [])
one_nonneg t h = All-cons (λ q. zero_ℚ ≤ℚ q) t [] h (All-nil (λ q. zero_ℚ ≤ℚ q))

two_nonneg : (s t : Rational) → zero_ℚ ≤ℚ s → zero_ℚ ≤ℚ t → AllNonnegative (s ∷ t ∷ [])
two_nonneg s t h k = All-cons (λ q. zero_ℚ ≤ℚ q) s (t ∷ []) h (one_nonneg t k)

pub slacks_nonneg : (set : Set) (v : Rational) → AllNonnegative (slacks_on set v)
slacks_nonneg (LessThan u) v = one_nonneg (excess v u) (excess_nonneg v u)
slacks_nonneg (GreaterThan l) v = one_nonneg (excess l v) (excess_nonneg l v)
slacks_nonneg (EqualTo a) v =
    two_nonneg (excess a v) (excess v a) (excess_nonneg a v) (excess_nonneg v a)
slacks_nonneg (Interval l u) v =
    two_nonneg (excess l v) (excess v u) (excess_nonneg l v) (excess_nonneg v u)
slacks_nonneg set v = All-nil (λ q. zero_ℚ ≤ℚ q)

-- they come to by how much v misses the set
pub slacks_sum : (set : Set) (v : Rational) → sum_ℚ (slacks_on set v) ≡ violation set v
slacks_sum (LessThan u) v = +ℚ-zero (excess v u)
slacks_sum (GreaterThan l) v = +ℚ-zero (excess l v)
slacks_sum (EqualTo a) v = ap (λ q. excess a v +ℚ q) (+ℚ-zero (excess v a))
slacks_sum (Interval l u) v = ap (λ q. excess l v +ℚ q) (+ℚ-zero (excess v u))
slacks_sum set v = refl

-- the number with slacks
abbrev pub slackened : Set → Rational → List Rational → Rational
slackened set v ts = v +ℚ dot (signs_on set) ts

pub slacks_meet : (set : Set) (v : Rational) → is_crossed set ≡ false → is_scalar set ≡ true
    → In set (slackened set v (slacks_on set v) ∷ [])
slacks_meet (LessThan u) v ordered scalar =
    subst (λ q. q ≤ℚ u) (sym (with_less v (excess v u))) (fits_below v u)
slacks_meet (GreaterThan l) v ordered scalar =
    subst (λ q. l ≤ℚ q) (sym (with_more v (excess l v))) (fits_above v l)
slacks_meet (EqualTo a) v ordered scalar =
    let both = fits_within a a v (≤ℚ_refl a) in
    with_both v (excess a v) (excess v a) ∙ ≤ℚ_antisymm (moved a a v) a both.1 both.0
slacks_meet (Interval l u) v ordered scalar =
    subst (λ q. (l ≤ℚ q) × (q ≤ℚ u)) (sym (with_both v (excess l v) (excess v u)))
    (fits_within l u v (ge_from_failed u l ordered))
slacks_meet set v ordered scalar = absurd (true≢false (sym scalar))

-- ---- all slacks that make a number meet a set

moved_right : (v u t : Rational) → (v -ℚ t) ≤ℚ u → v ≤ℚ (u +ℚ t)
moved_right = linear₃ _ (λ a b c e h. simp as_scaled (omega (arith, ints, scales, simp as_scaled at h)))

without_less : (l v s t : Rational) → zero_ℚ ≤ℚ t → l ≤ℚ ((v +ℚ s) -ℚ t) → l ≤ℚ (v +ℚ s)
without_less =
    linear₄ _ (λ a b c d e h k. simp as_scaled (omega
    (arith, ints, scales, simp (scaled_zero e) at h, simp as_scaled at k)))

without_more : (v u s t : Rational) → zero_ℚ ≤ℚ s → ((v +ℚ s) -ℚ t) ≤ℚ u → v ≤ℚ (u +ℚ t)
without_more =
    linear₄ _ (λ a b c d e h k. simp as_scaled (omega
    (arith, ints, scales, simp (scaled_zero e) at h, simp as_scaled at k)))

at_most_back : (a b c d : Rational) → c ≤ℚ d → (b +ℚ d) ≤ℚ (a +ℚ c) → b ≤ℚ a
at_most_back =
    linear₄ _ (λ a b c d e h k. omega (arith, ints, scales, simp as_scaled at k))

at_most_back_second : (a b c d : Rational) → a ≤ℚ b → (b +ℚ d) ≤ℚ (a +ℚ c) → d ≤ℚ c
at_most_back_second =
    linear₄ _ (λ a b c d e h k. omega (arith, ints, scales, simp as_scaled at k))

-- numbers that are at most others, and together as much, are those
pub both_equal : (a b c d : Rational) → a ≤ℚ b → c ≤ℚ d → b +ℚ d ≡ a +ℚ c → (a ≡ b) × (c ≡ d)
both_equal a b c d h k e =
    let all : (b +ℚ d) ≤ℚ (a +ℚ c) = ≤ℚ_from_≡ (b +ℚ d) (a +ℚ c) e in (
      ≤ℚ_antisymm a b h (at_most_back a b c d k all),
      ≤ℚ_antisymm c d k (at_most_back_second a b c d h all),
    )

-- at least as much as the number misses the set, and where no more, as much as the row is missed by
pub record AreEnough (set : Set) (v : Rational) (ts : List Rational) : Type 0 where
  pub least : violation set v ≤ℚ sum_ℚ ts
  pub exact : sum_ℚ ts ≡ violation set v → slack_violation ts ≡ violation set v

one_enough : (set : Set) (v t : Rational) → violation set v ≤ℚ t → AreEnough set v (t ∷ [])
one_enough set v t h = record {
  least = subst (λ q. violation set v ≤ℚ q) (sym (+ℚ-zero t)) h;
  exact = λ e. sym (+ℚ-zero t) ∙ e;
}

-- of two that are by how much a number is below one bound and above the other one is 0
one_of_two : (l u v : Rational) → l ≤ℚ u
    → cond (rational_eq (excess l v) zero_ℚ) (excess v u) (excess l v) ≡ excess l v +ℚ excess v u
one_of_two l u v ordered = by (rational_eq (excess l v) zero_ℚ) refl
  where
    by : (b : Bool) → rational_eq (excess l v) zero_ℚ ≡ b
        → cond b (excess v u) (excess l v) ≡ excess l v +ℚ excess v u
    by true e =
        sym (ap (λ q. q +ℚ excess v u) (rational_eq-true (excess l v) zero_ℚ e)
        ∙ zero-+ℚ (excess v u))
    by false e =
        excess_cases (excess l v ≡ excess l v +ℚ excess v u) v u
        (λ _ none. sym (ap (λ q. excess l v +ℚ q) none ∙ +ℚ-zero (excess l v)))
        (λ high _. excess_cases (excess l v ≡ excess l v +ℚ excess v u) l v
        (λ _ none. absurd (rational_eq-false (excess l v) zero_ℚ e none))
        (λ low _. absurd (not_‹ℚ_from_≤ℚ v u
        (≤ℚ_trans v l u (≤ℚ_from_‹ℚ v l low) ordered) high)))

two_enough : (l u v s t : Rational) → l ≤ℚ u → zero_ℚ ≤ℚ s → zero_ℚ ≤ℚ t
    → l ≤ℚ ((v +ℚ s) -ℚ t) → ((v +ℚ s) -ℚ t) ≤ℚ u
    → ((excess l v +ℚ excess v u) ≤ℚ (s +ℚ (t +ℚ zero_ℚ)))
    × (s +ℚ (t +ℚ zero_ℚ) ≡ excess l v +ℚ excess v u
    → cond (rational_eq s zero_ℚ) t s ≡ excess l v +ℚ excess v u)
two_enough l u v s t ordered s_nonneg t_nonneg low high =
    let first = excess_least l v s s_nonneg (without_less l v s t t_nonneg low) in
    let second = excess_least v u t t_nonneg (without_more v u s t s_nonneg high) in (
      subst (λ q. (excess l v +ℚ excess v u) ≤ℚ (s +ℚ q)) (sym (+ℚ-zero t))
          (≤ℚ-+ℚ (excess l v) s (excess v u) t first second),
      λ e.
          let same = both_equal (excess l v) s (excess v u) t first second
          (ap (λ q. s +ℚ q) (sym (+ℚ-zero t)) ∙ e) in
          sym (λ i. cond (rational_eq (same.0 i) zero_ℚ) (same.1 i) (same.0 i))
          ∙ one_of_two l u v ordered,
    )

below_enough : (u v : Rational) (ts : List Rational) → length ts ≡ 1 → AllNonnegative ts
    → (v +ℚ dot (neg_ℚ one_ℚ ∷ []) ts) ≤ℚ u → AreEnough (LessThan u) v ts
below_enough u v [] size nonneg h = absurd (omega (arith, size))
below_enough u v (t ∷ []) size nonneg h =
    one_enough (LessThan u) v t
    (excess_least v u t (All-head (λ q. zero_ℚ ≤ℚ q) t [] nonneg)
    (moved_right v u t (subst (λ q. q ≤ℚ u) (with_less v t) h)))
below_enough u v (s ∷ t ∷ ts) size nonneg h = absurd (omega (arith, size))

above_enough : (l v : Rational) (ts : List Rational) → length ts ≡ 1 → AllNonnegative ts
    → l ≤ℚ (v +ℚ dot (one_ℚ ∷ []) ts) → AreEnough (GreaterThan l) v ts
above_enough l v [] size nonneg h = absurd (omega (arith, size))
above_enough l v (t ∷ []) size nonneg h =
    one_enough (GreaterThan l) v t
    (excess_least l v t (All-head (λ q. zero_ℚ ≤ℚ q) t [] nonneg)
    (subst (λ q. l ≤ℚ q) (with_more v t) h))
above_enough l v (s ∷ t ∷ ts) size nonneg h = absurd (omega (arith, size))

abbrev Two : List Rational
Two = one_ℚ ∷ neg_ℚ one_ℚ ∷ []

within_enough : (l u v : Rational) (ts : List Rational) → l ≤ℚ u → length ts ≡ 2
    → AllNonnegative ts → l ≤ℚ (v +ℚ dot Two ts) → (v +ℚ dot Two ts) ≤ℚ u
    → ((excess l v +ℚ excess v u) ≤ℚ sum_ℚ ts)
    × (sum_ℚ ts ≡ excess l v +ℚ excess v u → slack_violation ts ≡ excess l v +ℚ excess v u)
within_enough l u v [] ordered size nonneg low high = absurd (omega (arith, size))
within_enough l u v (s ∷ []) ordered size nonneg low high = absurd (omega (arith, size))
within_enough l u v (s ∷ t ∷ []) ordered size nonneg low high =
    two_enough l u v s t ordered (All-head (λ q. zero_ℚ ≤ℚ q) s (t ∷ []) nonneg)
    (All-head (λ q. zero_ℚ ≤ℚ q) t [] (All-tail (λ q. zero_ℚ ≤ℚ q) s (t ∷ []) nonneg))
    (subst (λ q. l ≤ℚ q) (with_both v s t) low) (subst (λ q. q ≤ℚ u) (with_both v s t) high)
within_enough l u v (s ∷ t ∷ r ∷ ts) ordered size nonneg low high = absurd (omega (arith, size))

none_enough : (set : Set) (v : Rational) (ts : List Rational) → length ts ≡ 0
    → violation set v ≡ zero_ℚ → AreEnough set v ts
none_enough set v [] size none = record {
  least = ≤ℚ_from_≡ (violation set v) zero_ℚ none;
  exact = λ e. e;
}
none_enough set v (t ∷ ts) size none = absurd (omega (arith, size))

pub slacks_enough : (set : Set) (v : Rational) (ts : List Rational) → is_crossed set ≡ false
    → length ts ≡ length (signs_on set) → AllNonnegative ts → In set (slackened set v ts ∷ [])
    → AreEnough set v ts
slacks_enough (LessThan u) v ts ordered size nonneg h = below_enough u v ts size nonneg h
slacks_enough (GreaterThan l) v ts ordered size nonneg h = above_enough l v ts size nonneg h
slacks_enough (EqualTo a) v ts ordered size nonneg h =
    let q : Rational = v +ℚ dot Two ts in
    let both = within_enough a a v ts (≤ℚ_refl a) size nonneg (≤ℚ_from_≡ a q (sym h))
    (≤ℚ_from_≡ q a h) in record { least = both.0; exact = both.1 }
slacks_enough (Interval l u) v ts ordered size nonneg h =
    let both = within_enough l u v ts (ge_from_failed u l ordered) size nonneg h.0 h.1 in
    record { least = both.0; exact = both.1 }
slacks_enough set v ts ordered size nonneg h = none_enough set v ts size refl
