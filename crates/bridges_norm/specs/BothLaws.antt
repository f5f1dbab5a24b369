-- Sums and differences of one function, or of functions, with others: what their numbers are, and
-- where the norms are that they bound.
use Rattle.std.specs.Prelude.{All, List, [], drop, fold, length, map, refl, replicate, suc, take, zero, ℕ, ◌++◌, ◌+◌, ◌-◌, ◌∷◌, ◌≡◌, ◌≤◌}
use Rattle.std.proofs.lemmas.List.Elements.{All-cons, All-head, All-nil, All-tail}
use Rattle.std.proofs.Common.{ap, ap₂, arith, subst, sym, ◌∙◌}
use Rattle.std.proofs.lemmas.List.{length-drop, length-map, length-take-le, map-append, take-append-drop}
use Rattle.rational_laws.specs.Field.{+ℚ-zero, +ℚ_comm, +ℚ_inner_comm, neg_ℚ-neg_ℚ, neg_ℚ-zero, same_from_difference, zero-*ℚ, -ℚ-itself}
use Rattle.bridge_face.specs.DifferenceLaws.{IsAdditive, Subtracts}
use Rattle.aff_core.specs.Function.{Function}
use Rattle.ratio_core.specs.Rational.{Rational, abs_ℚ, neg_ℚ, zero_ℚ, ◌*ℚ◌, ◌+ℚ◌, ◌-ℚ◌, ◌≤ℚ◌}
use Rattle.rational_laws.specs.Order.{abs_ℚ-+ℚ, abs_ℚ-neg_ℚ, abs_ℚ_at_most, abs_ℚ_nonneg, ≤ℚ-+ℚ, ≤ℚ_from_nonneg, ≤ℚ_from_≡, ≤ℚ_refl}
use Rattle.rational_laws.specs.Ring.{as_expression, by_ring, ring₃, ring₅}
use Rattle.bridge_face.specs.BackOf.{size}
use Rattle.bridge_face.specs.GroupLaws.{held_of}
use Rattle.bridge_face.specs.Images.{difference, first_in, function_of_body, rest_of}
use Rattle.bridge_face.specs.OneRowLaws.{row_held}
use Rattle.dual_laws.specs.Held.{IsHeld}
use Rattle.item_core.specs.Item.{functions_of, set_of}
use Rattle.item_core.specs.Valid.{IsValidItem}
use Rattle.item_core.specs.declared.item.Item.{Item}
use Rattle.set_core.specs.Membership.{Dual}
use Rattle.set_core.specs.Shapes.{IsSetOf, least_dimension}
use Rattle.set_core.specs.declared.set.Set.{Set}
use Rattle.item_core.specs.declared.item.Body.{Body}
use Rattle.rational_laws.specs.Dot.{dot, minus, plus}
use Rattle.rational_laws.specs.DotLaws.{dot-append, length-minus, minus-dot}
use Rattle.set_laws.specs.Norms.{norm}
use Rattle.aff_core.specs.Arithmetic.{sum_of}
use Rattle.rational_laws.specs.Sums.{sum_ℚ}
use Rattle.rational_laws.specs.Dot as numbers

-- ---- one function less others, and with others

abbrev pub less_each : Function → List Function → List Function
less_each t fs = map (difference t) fs

abbrev pub more_each : Function → List Function → List Function
more_each t fs = map (sum_of t) fs

less_sums : (p k x s d : Rational) → p *ℚ (k -ℚ x) +ℚ (s *ℚ k -ℚ d) ≡ (p +ℚ s) *ℚ k -ℚ (p *ℚ x +ℚ d)
less_sums = ring₅ _ (λ ρ. simp as_expression (by_ring ρ _ _ refl))

more_sums : (p k x s d : Rational) → p *ℚ (k +ℚ x) +ℚ (s *ℚ k +ℚ d) ≡ (p +ℚ s) *ℚ k +ℚ (p *ℚ x +ℚ d)
more_sums = ring₅ _ (λ ρ. simp as_expression (by_ring ρ _ _ refl))

both_sums : (s k d u e : Rational) → (s *ℚ k -ℚ d) +ℚ (u *ℚ k +ℚ e) ≡ (s +ℚ u) *ℚ k +ℚ (e -ℚ d)
both_sums = ring₅ _ (λ ρ. simp as_expression (by_ring ρ _ _ refl))

module _ (g : Function → Rational) (subtracts : Subtracts g) (adds : IsAdditive g) (t : Function) where
  dot_less : (p : List Rational) (fs : List Function) → length p ≡ length fs
      → dot p (map g (less_each t fs)) ≡ sum_ℚ p *ℚ g t -ℚ dot p (map g fs)
  dot_less [] fs e = sym (ap (λ q. q -ℚ zero_ℚ) (zero-*ℚ (g t)) ∙ -ℚ-itself zero_ℚ)
  dot_less (q ∷ p) [] e = absurd (omega (arith, e))
  dot_less (q ∷ p) (f ∷ fs) e =
      ap₂ ◌+ℚ◌ (ap (λ z. q *ℚ z) (subtracts t f)) (dot_less p fs (omega (arith, e)))
      ∙ less_sums q (g t) (g f) (sum_ℚ p) (dot p (map g fs))

  dot_more : (p : List Rational) (fs : List Function) → length p ≡ length fs
      → dot p (map g (more_each t fs)) ≡ sum_ℚ p *ℚ g t +ℚ dot p (map g fs)
  dot_more [] fs e = sym (ap (λ q. q +ℚ zero_ℚ) (zero-*ℚ (g t)) ∙ +ℚ-zero zero_ℚ)
  dot_more (q ∷ p) [] e = absurd (omega (arith, e))
  dot_more (q ∷ p) (f ∷ fs) e =
      ap₂ ◌+ℚ◌ (ap (λ z. q *ℚ z) (adds t f)) (dot_more p fs (omega (arith, e)))
      ∙ more_sums q (g t) (g f) (sum_ℚ p) (dot p (map g fs))

  -- the numbers of both, weighed
  pub dot_both : (p q : List Rational) (fs : List Function) → length p ≡ length fs
      → length q ≡ length fs
      → dot (p ++ q) (map g (less_each t fs ++ more_each t fs))
      ≡ (sum_ℚ p +ℚ sum_ℚ q) *ℚ g t +ℚ dot (minus q p) (map g fs)
  dot_both p q fs e k =
      ap (dot (p ++ q)) (map-append g (less_each t fs) (more_each t fs))
      ∙ dot-append p (map g (less_each t fs)) q (map g (more_each t fs))
      (e ∙ sym (length-map (less_each t fs) g ∙ length-map fs (difference t)))
      ∙ ap₂ ◌+ℚ◌ (dot_less p fs e) (dot_more q fs k)
      ∙ both_sums (sum_ℚ p) (g t) (dot p (map g fs)) (sum_ℚ q) (dot q (map g fs))
      ∙ ap (λ z. (sum_ℚ p +ℚ sum_ℚ q) *ℚ g t +ℚ z) (sym (minus-dot q p (map g fs) (k ∙ sym e)))

-- the differences from the first function, one after the other
pub number-fold : (g : Function → Rational) → Subtracts g → (t : Function) (fs : List Function)
    → g (fold difference t fs) ≡ g t -ℚ sum_ℚ (map g fs)
number-fold g s t [] = sym (ap (λ q. g t +ℚ q) neg_ℚ-zero ∙ +ℚ-zero (g t))
number-fold g s t (f ∷ fs) =
    number-fold g s (difference t f) fs ∙ ap (λ q. q -ℚ sum_ℚ (map g fs)) (s t f)
    ∙ turned (g t) (g f) (sum_ℚ (map g fs))
  where
    turned : (k x d : Rational) → (k -ℚ x) -ℚ d ≡ k -ℚ (x +ℚ d)
    turned = ring₃ _ (λ ρ. simp as_expression (by_ring ρ _ _ refl))

pub all_fold : (P : Function → Type 0) → ((f h : Function) → P f → P h → P (difference f h))
    → (t : Function) (fs : List Function) → P t → All P fs → P (fold difference t fs)
all_fold P s t [] p q = p
all_fold P s t (f ∷ fs) p q =
    all_fold P s (difference t f) fs (s t f p (All-head P f fs q)) (All-tail P f fs q)

-- ---- halves of a list

-- a list as long as twice n
pub record Halves (n : ℕ) (y : List Rational) : Type 0 where
  pub whole : take n y ++ drop n y ≡ y
  pub first : length (take n y) ≡ n
  pub second : length (drop n y) ≡ n

pub halves : (n : ℕ) (y : List Rational) → length y ≡ n + n → Halves n y
halves n y long = record {
  whole = take-append-drop n y;
  first = length-take-le n y (omega (arith, long));
  second = length-drop n y ∙ omega (arith, long);
}

-- ---- magnitudes

-- a number whose difference from another, and whose sum with it, aren't negative
pub magnitude_below : (e v : Rational) → zero_ℚ ≤ℚ (e -ℚ v) → zero_ℚ ≤ℚ (e +ℚ v) → abs_ℚ v ≤ℚ e
magnitude_below e v low high =
    abs_ℚ_at_most v e (≤ℚ_from_nonneg v e low)
    (≤ℚ_from_nonneg (neg_ℚ v) e (subst (λ z. zero_ℚ ≤ℚ (e +ℚ z)) (sym (neg_ℚ-neg_ℚ v)) high))

pub each_below : (e : Rational) (vs : List Rational)
    → All (λ q. zero_ℚ ≤ℚ q) (map (λ v. e -ℚ v) vs) → All (λ q. zero_ℚ ≤ℚ q) (map (λ v. e +ℚ v) vs)
    → All (λ q. abs_ℚ q ≤ℚ e) vs
each_below e [] low high = All-nil (λ q. abs_ℚ q ≤ℚ e)
each_below e (v ∷ vs) low high =
    All-cons (λ q. abs_ℚ q ≤ℚ e) v vs
    (magnitude_below e v (All-head (λ q. zero_ℚ ≤ℚ q) (e -ℚ v) (map (λ v. e -ℚ v) vs) low)
    (All-head (λ q. zero_ℚ ≤ℚ q) (e +ℚ v) (map (λ v. e +ℚ v) vs) high))
    (each_below e vs (All-tail (λ q. zero_ℚ ≤ℚ q) (e -ℚ v) (map (λ v. e -ℚ v) vs) low)
    (All-tail (λ q. zero_ℚ ≤ℚ q) (e +ℚ v) (map (λ v. e +ℚ v) vs) high))

-- where each is below its own bound, the norm is below the sum of the bounds
pub norm_below : (es vs : List Rational) → length es ≡ length vs
    → All (λ q. zero_ℚ ≤ℚ q) (minus es vs) → All (λ q. zero_ℚ ≤ℚ q) (plus es vs)
    → norm vs ≤ℚ sum_ℚ es
norm_below [] [] e low high = ≤ℚ_refl zero_ℚ
norm_below [] (v ∷ vs) e low high = absurd (omega (arith, e))
norm_below (b ∷ es) [] e low high = absurd (omega (arith, e))
norm_below (b ∷ es) (v ∷ vs) e low high =
    ≤ℚ-+ℚ (abs_ℚ v) b (norm vs) (sum_ℚ es)
    (magnitude_below b v (All-head (λ q. zero_ℚ ≤ℚ q) (b -ℚ v) (minus es vs) low)
    (All-head (λ q. zero_ℚ ≤ℚ q) (b +ℚ v) (plus es vs) high))
    (norm_below es vs (omega (arith, e)) (All-tail (λ q. zero_ℚ ≤ℚ q) (b -ℚ v) (minus es vs) low)
    (All-tail (λ q. zero_ℚ ≤ℚ q) (b +ℚ v) (plus es vs) high))

-- the magnitude of a difference of two numbers that aren't negative is at most their sum
pub across_below : (p q : Rational) → zero_ℚ ≤ℚ p → zero_ℚ ≤ℚ q → abs_ℚ (q -ℚ p) ≤ℚ (p +ℚ q)
across_below p q h k =
    subst (λ z. abs_ℚ (q -ℚ p) ≤ℚ z)
    (ap₂ ◌+ℚ◌ (abs_ℚ_nonneg q k) (abs_ℚ-neg_ℚ p ∙ abs_ℚ_nonneg p h) ∙ +ℚ_comm q p)
    (abs_ℚ-+ℚ q (neg_ℚ p))

pub norm_across : (p q : List Rational) → length p ≡ length q
    → All (λ q. zero_ℚ ≤ℚ q) p → All (λ q. zero_ℚ ≤ℚ q) q → norm (minus q p) ≤ℚ (sum_ℚ p +ℚ sum_ℚ q)
norm_across [] [] e h k = ≤ℚ_from_≡ zero_ℚ (zero_ℚ +ℚ zero_ℚ) (sym (+ℚ-zero zero_ℚ))
norm_across [] (b ∷ q) e h k = absurd (omega (arith, e))
norm_across (a ∷ p) [] e h k = absurd (omega (arith, e))
norm_across (a ∷ p) (b ∷ q) e h k =
    subst (λ z. norm ((b -ℚ a) ∷ minus q p) ≤ℚ z) (+ℚ_inner_comm a b (sum_ℚ p) (sum_ℚ q))
    (≤ℚ-+ℚ (abs_ℚ (b -ℚ a)) (a +ℚ b) (norm (minus q p)) (sum_ℚ p +ℚ sum_ℚ q)
    (across_below a b (All-head (λ q. zero_ℚ ≤ℚ q) a p h) (All-head (λ q. zero_ℚ ≤ℚ q) b q k))
    (norm_across p q (omega (arith, e)) (All-tail (λ q. zero_ℚ ≤ℚ q) a p h)
    (All-tail (λ q. zero_ℚ ≤ℚ q) b q k)))

-- where each two numbers have the sum r, each difference is at most r
pub each_across : (n : ℕ) (r : Rational) (p q : List Rational) → length p ≡ n → length q ≡ n
    → All (λ q. zero_ℚ ≤ℚ q) p → All (λ q. zero_ℚ ≤ℚ q) q
    → All (λ z. z ≡ zero_ℚ) (minus (plus p q) (replicate n r))
    → All (λ z. abs_ℚ z ≤ℚ r) (minus q p)
each_across zero r [] [] e k low high same = All-nil (λ z. abs_ℚ z ≤ℚ r)
each_across zero r (a ∷ p) q e k low high same = absurd (omega (arith, e))
each_across zero r [] (b ∷ q) e k low high same = absurd (omega (arith, k))
each_across (suc n) r [] q e k low high same = absurd (omega (arith, e))
each_across (suc n) r (a ∷ p) [] e k low high same = absurd (omega (arith, k))
each_across (suc n) r (a ∷ p) (b ∷ q) e k low high same =
    All-cons (λ z. abs_ℚ z ≤ℚ r) (b -ℚ a) (minus q p)
    (subst (λ z. abs_ℚ (b -ℚ a) ≤ℚ z) (same_from_difference (a +ℚ b) r
    (All-head (λ z. z ≡ zero_ℚ) ((a +ℚ b) -ℚ r) (minus (plus p q) (replicate n r)) same))
    (across_below a b (All-head (λ q. zero_ℚ ≤ℚ q) a p low) (All-head (λ q. zero_ℚ ≤ℚ q) b q high)))
    (each_across n r p q (omega (arith, e)) (omega (arith, k)) (All-tail (λ q. zero_ℚ ≤ℚ q) a p low)
    (All-tail (λ q. zero_ℚ ≤ℚ q) b q high) (All-tail (λ z. z ≡ zero_ℚ) ((a +ℚ b) -ℚ r)
    (minus (plus p q) (replicate n r)) same))

-- ---- a list of several functions begins with one

-- all functions of a body but the first
abbrev pub others_of : Body → List Function
others_of b = rest_of (functions_of b)

begins : (fs : List Function) → 1 ≤ length fs → fs ≡ first_in fs ∷ rest_of fs
begins [] h = absurd (omega (arith, h))
begins (f ∷ fs) h = refl

pub others_counted : (fs : List Function) → 1 ≤ length fs → length fs - 1 ≡ length (rest_of fs)
others_counted fs some =
    let e : length fs ≡ suc (length (rest_of fs)) = ap length (begins fs some) in
    omega (arith, e)

-- a row in a cone of two numbers or more, as its first function and the others
pub record ConeRow (item : Item) (cone : Set) : Type 0 where
  pub parts : functions_of item.body ≡ function_of_body item.body ∷ others_of item.body
  pub some : 1 ≤ length (others_of item.body)
  pub counted : size item - 1 ≡ length (others_of item.body)
  pub is : (w : List Rational)
      → row_held item.body w
      ≡ held_of w (function_of_body item.body ∷ others_of item.body) cone
  -- a number, and the differences of two lists
  pub held : (a : Rational) (p q : List Rational) → length p ≡ length (others_of item.body)
      → length q ≡ length (others_of item.body) → Dual cone (a ∷ minus q p)
      → IsHeld (held_of (a ∷ minus q p) (function_of_body item.body ∷ others_of item.body) cone)

pub cone_row : (item : Item) → IsValidItem item → (cone : Set) → set_of item.body ≡ cone
    → 2 ≤ least_dimension cone → ConeRow item cone
cone_row item valid cone set two =
    let parts : functions_of item.body ≡ function_of_body item.body ∷ others_of item.body =
    begins (functions_of item.body) valid.some in
    let enough : least_dimension cone ≤ length (functions_of item.body) =
    subst (λ s. least_dimension s ≤ length (functions_of item.body)) set valid.set.enough in
    let e : length (functions_of item.body) ≡ suc (length (others_of item.body)) =
    ap length parts in
    record {
      parts = parts;
      some = omega (arith, two, enough, e);
      counted = omega (arith, e);
      is = λ w. ap₂ (held_of w) parts set;
      held = λ a p q p_long q_long dual. record {
        set = subst (λ gs. IsSetOf (length gs) cone) parts
            (subst (IsSetOf (length (functions_of item.body))) set valid.set);
        size = ap suc (length-minus q p (q_long ∙ sym p_long) ∙ p_long);
        dual = dual;
      };
    }

-- no numbers but zeros are left of zeros
pub none_left : (v : List Rational) → All (λ q. q ≡ zero_ℚ) (numbers.negated v)
    → All (λ q. q ≡ zero_ℚ) v
none_left [] h = All-nil (λ q. q ≡ zero_ℚ)
none_left (p ∷ v) h =
    All-cons (λ q. q ≡ zero_ℚ) p v
    (sym (neg_ℚ-neg_ℚ p) ∙ ap neg_ℚ (All-head (λ q. q ≡ zero_ℚ) (neg_ℚ p) (numbers.negated v) h)
    ∙ neg_ℚ-zero)
    (none_left v (All-tail (λ q. q ≡ zero_ℚ) (neg_ℚ p) (numbers.negated v) h))
