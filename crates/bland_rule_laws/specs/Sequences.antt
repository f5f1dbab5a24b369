-- Plain facts of sequences: what each step keeps, tests that change, and a sum that is above 0.
use Rattle.std.specs.Prelude.{◌≡◌, ℕ, zero, suc, ◌<◌, ◌≤◌, Bool, true, false, not, refl}
use Rattle.std.proofs.Common.{sym, ◌∙◌, ap, arith, subst, true≢false}
use Rattle.std.proofs.lemmas.Bool.{not-true}
use Rattle.std.specs.Prelude.{◌⊎◌}
use Rattle.std.proofs.Common.{inl, inr}
use Rattle.ratio_core.specs.Rational.{Rational, zero_ℚ, ◌+ℚ◌, ◌≤ℚ◌, ◌‹ℚ◌}
use Rattle.rational_laws.specs.Field.{+ℚ-zero}
use Rattle.rational_laws.specs.Order.{not_‹ℚ_from_≤ℚ, ≤ℚ-+ℚ_left, ≤ℚ_or_‹ℚ, ≤ℚ_refl, ‹ℚ-≤ℚ_trans}
use Rattle.simplex_form.specs.BoundedSums.{sum_to}
use Rattle.simplex_laws.specs.BoundedSumLaws.{same_or_other}

-- what each step from a to b keeps
pub carried : (P : ℕ → Type 0) (a b : ℕ) → ((k : ℕ) → a ≤ k → k < b → P k → P (suc k)) → (x y : ℕ)
    → a ≤ x → x ≤ y → y ≤ b → P x → P y
carried P a b step x zero c d e h = subst P (zero_lem x d) h
  where
    zero_lem : (x : ℕ) → x ≤ 0 → x ≡ 0
    zero_lem x d = omega arith
carried P a b step x (suc y) c d e h =
    same_or_other (P (suc y)) x (suc y) (λ q. subst P q h)
    (λ m. step y (omega (arith, m)) (omega arith)
    (carried P a b step x y c (omega (arith, m)) (omega arith) h))

-- ---- tests that change

-- between x and y the test is passed and then failed
abbrev pub Falls : (ℕ → Bool) → ℕ → ℕ → Type 0
Falls f x y = (k : ℕ) × (x ≤ k) × (k < y) × (f k ≡ true) × (f (suc k) ≡ false)

-- and failed and then passed
abbrev pub Rises : (ℕ → Bool) → ℕ → ℕ → Type 0
Rises f x y = (k : ℕ) × (x ≤ k) × (k < y) × (f k ≡ false) × (f (suc k) ≡ true)

falls : (f : ℕ → Bool) (x y : ℕ) → x ≤ y → f x ≡ true → f y ≡ false → Falls f x y
falls f x zero c e g = absurd (true≢false (sym e ∙ ap f (zero_lem x c) ∙ g))
  where
    zero_lem : (x : ℕ) → x ≤ 0 → x ≡ 0
    zero_lem x d = omega arith
falls f x (suc y) c e g =
    same_or_other (Falls f x (suc y)) x (suc y)
    (λ q. absurd (true≢false (sym e ∙ ap f q ∙ g)))
    (λ m. by_test (f y) refl (falls f x y (omega (arith, m)) e) m)
  where
    by_test : (b : Bool) → f y ≡ b → (f y ≡ false → Falls f x y) → ¬ (x ≡ suc y)
        → Falls f x (suc y)
    by_test true h before m = (y, omega (arith, m), omega arith, h, g)
    by_test false h before m =
        let found : Falls f x y = before h in
        (found.0, found.1, omega (arith, found.2), found.3, found.4)

rises : (f : ℕ → Bool) (x y : ℕ) → x ≤ y → f x ≡ false → f y ≡ true → Rises f x y
rises f x y c e g =
    let found : Falls (λ k. not (f k)) x y =
    falls (λ k. not (f k)) x y c (ap not e) (ap not g) in (
      found.0,
      found.1,
      found.2,
      not-true (f found.0) found.3,
      not_false (f (suc found.0)) found.4,
    )
  where
    not_false : (t : Bool) → not t ≡ false → t ≡ true
    not_false true e = refl
    not_false false e = absurd (true≢false e)

-- whether two tests differ
abbrev pub differ : Bool → Bool → Bool
differ true y = not y
differ false y = y

pub differ_false : (x y : Bool) → differ x y ≡ false → y ≡ x
differ_false true true e = refl
differ_false true false e = absurd (true≢false e)
differ_false false true e = absurd (true≢false e)
differ_false false false e = refl

-- a test that comes out alike at both ends and changes in between rises and falls
module _ (f : ℕ → Bool) (a b k : ℕ) (c : a ≤ k) (d : k < b) (ends : f a ≡ f b) where
  abbrev Both : Type 0
  Both = Rises f a b × Falls f a b

  fallen : f k ≡ true → f (suc k) ≡ false → (v : Bool) → f a ≡ v → Both
  fallen e g true h =
      let found : Rises f (suc k) b = rises f (suc k) b (omega (arith, d)) g (sym ends ∙ h) in
      ((found.0, omega (arith, c, found.1), found.2, found.3, found.4), (k, c, d, e, g))
  fallen e g false h =
      let found : Rises f a k = rises f a k c h e in
      ((found.0, found.1, omega (arith, d, found.2), found.3, found.4), (k, c, d, e, g))

  risen : f k ≡ false → f (suc k) ≡ true → (v : Bool) → f a ≡ v → Both
  risen e g true h =
      let found : Falls f a k = falls f a k c h e in
      ((k, c, d, e, g), (found.0, found.1, omega (arith, d, found.2), found.3, found.4))
  risen e g false h =
      let found : Falls f (suc k) b = falls f (suc k) b (omega (arith, d)) g (sym ends ∙ h) in
      ((k, c, d, e, g), (found.0, omega (arith, c, found.1), found.2, found.3, found.4))

  pub rises_and_falls : differ (f k) (f (suc k)) ≡ true → Both
  rises_and_falls h = by_tests (f k) (f (suc k)) refl refl h
    where
      by_tests : (x y : Bool) → f k ≡ x → f (suc k) ≡ y → differ x y ≡ true → Both
      by_tests true true e g h = absurd (true≢false (sym h))
      by_tests true false e g h = fallen e g (f a) refl
      by_tests false true e g h = risen e g (f a) refl
      by_tests false false e g h = absurd (true≢false (sym h))

-- the greatest number below n that passes a test which some number passes
abbrev pub IsGreatest : ℕ → (ℕ → Bool) → ℕ → Type 0
IsGreatest n test t = (t < n) × (test t ≡ true) × ((j : ℕ) → t < j → j < n → test j ≡ false)

pub greatest_below : (n : ℕ) (test : ℕ → Bool) (k : ℕ) → k < n → test k ≡ true
    → (t : ℕ) × IsGreatest n test t
greatest_below zero test k b e = absurd (omega (arith, b))
greatest_below (suc n) test k b e = by_test (test n) refl (greatest_below n test k)
  where
    at_end : (t : ℕ) → IsGreatest n test t → test n ≡ false → IsGreatest (suc n) test t
    at_end t h g = (
      omega (arith, h.0),
      h.1,
      λ j c d. same_or_other (test j ≡ false) j n (λ q. ap test q ∙ g)
          (λ m. h.2 j c (omega (arith, d, m))),
    )

    below_lem : (k n : ℕ) → k < suc n → ¬ (k ≡ n) → k < n
    below_lem k n b m = omega (arith, b, m)

    by_test : (v : Bool) → test n ≡ v → (k < n → test k ≡ true → (t : ℕ) × IsGreatest n test t)
        → (t : ℕ) × IsGreatest (suc n) test t
    by_test true g before = (n, (omega arith, g, λ j c d. absurd (omega (arith, c, d))))
    by_test false g before =
        let found : (t : ℕ) × IsGreatest n test t =
        before (below_lem k n b (λ q. true≢false (sym e ∙ ap test q ∙ g))) e in
        (found.0, at_end found.0 found.1 g)

-- ---- sums

-- of terms whose sum is above 0 one is
pub term_above : (n : ℕ) (f : ℕ → Rational) → zero_ℚ ‹ℚ sum_to n f
    → (i : ℕ) × (i < n) × (zero_ℚ ‹ℚ f i)
term_above zero f h = absurd (not_‹ℚ_from_≤ℚ zero_ℚ zero_ℚ (≤ℚ_refl zero_ℚ) h)
term_above (suc n) f h = by_sign (≤ℚ_or_‹ℚ (f n) zero_ℚ) (term_above n f)
  where
    less : (p q : Rational) → q ≤ℚ zero_ℚ → (p +ℚ q) ≤ℚ p
    less p q k = subst (λ x. (p +ℚ q) ≤ℚ x) (+ℚ-zero p) (≤ℚ-+ℚ_left q zero_ℚ p k)

    by_sign : (f n ≤ℚ zero_ℚ) ⊎ (zero_ℚ ‹ℚ f n)
        → (zero_ℚ ‹ℚ sum_to n f → (i : ℕ) × (i < n) × (zero_ℚ ‹ℚ f i))
        → (i : ℕ) × (i < suc n) × (zero_ℚ ‹ℚ f i)
    by_sign (inl k) before =
        let found : (i : ℕ) × (i < n) × (zero_ℚ ‹ℚ f i) = before
        (‹ℚ-≤ℚ_trans zero_ℚ (sum_to n f +ℚ f n) (sum_to n f) h (less (sum_to n f) (f n) k)) in
        (found.0, omega (arith, found.1), found.2)
    by_sign (inr k) before = (n, omega arith, k)
