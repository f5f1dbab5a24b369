-- Counting: sets of columns are the numbers below a power of two, and numbers below a bound that
-- differ are no more than the bound.
use Rattle.std.specs.Prelude.{◌≡◌, ℕ, zero, suc, ◌+◌, ◌-◌, ◌*◌, ◌^◌, ◌<◌, ◌≤◌, ◌⊎◌, Bool, true, false, nat_lt, if◌then◌else◌, refl}
use Rattle.std.proofs.Common.{inl, inr, sym, ◌∙◌, ap, arith, subst}
use Rattle.std.proofs.Math.Nat.{pow-suc}
use Rattle.std.proofs.lemmas.Bool.{ltb-false, ltb-true}
use Rattle.simplex_laws.specs.BoundedSumLaws.{same_or_other}

-- ---- sets as sums of powers of two

-- the number of the set of those below w that pass the test
abbrev pub number_of : (ℕ → Bool) → ℕ → ℕ
number_of f zero = 0
number_of f (suc w) = number_of f w + (if f w then 2 ^ w else 0)

pub two_lem : (w : ℕ) → 2 ^ suc w ≡ 2 ^ w + 2 ^ w
two_lem w = pow-suc 2 w ∙ doubled (2 ^ w)
  where
    doubled : (n : ℕ) → n * 2 ≡ n + n
    doubled n = omega arith

pub number_of-below : (f : ℕ → Bool) (w : ℕ) → number_of f w < 2 ^ w
number_of-below f zero = omega arith
number_of-below f (suc w) =
    subst (λ n. number_of f (suc w) < n) (sym (two_lem w)) (by_test (f w) (number_of-below f w))
  where
    by_test : (b : Bool) → number_of f w < 2 ^ w
        → number_of f w + (if b then 2 ^ w else 0) < 2 ^ w + 2 ^ w
    by_test true h = omega (arith, h)
    by_test false h = omega (arith, h)

-- sets of one number are equal
pub number_of-same : (f g : ℕ → Bool) (w : ℕ) → number_of f w ≡ number_of g w → (j : ℕ) → j < w
    → f j ≡ g j
number_of-same f g zero e j b = absurd (omega (arith, b))
number_of-same f g (suc w) e j b =
    let both : (number_of f w ≡ number_of g w) × (f w ≡ g w) =
    by_tests (f w) (g w) (number_of f w) (number_of g w) (2 ^ w) (number_of-below f w)
    (number_of-below g w) e in
    same_or_other (f j ≡ g j) j w (λ q. ap f q ∙ both.1 ∙ ap g (sym q))
    (λ m. number_of-same f g w both.0 j (omega (arith, b, m)))
  where
    by_tests : (x y : Bool) (m n p : ℕ) → m < p → n < p
        → m + (if x then p else 0) ≡ n + (if y then p else 0) → (m ≡ n) × (x ≡ y)
    by_tests true true m n p h k e = (omega (arith, e), refl)
    by_tests true false m n p h k e = absurd (omega (arith, e, h, k))
    by_tests false true m n p h k e = absurd (omega (arith, e, h, k))
    by_tests false false m n p h k e = (omega (arith, e), refl)

-- ---- the pigeonhole

-- the numbers other than c moved together
lowered : ℕ → ℕ → ℕ
lowered c x = if nat_lt c x then x - 1 else x

lowered_is : (c x : ℕ) → ¬ (x ≡ c)
    → ((x < c) × (lowered c x ≡ x)) ⊎ ((c < x) × (suc (lowered c x) ≡ x))
unfolding lowered
lowered_is c x n = by_test (nat_lt c x) refl
  where
    by_test : (b : Bool) → nat_lt c x ≡ b
        → ((x < c) × ((if b then x - 1 else x) ≡ x))
        ⊎ ((c < x) × (suc (if b then x - 1 else x) ≡ x))
    by_test true e =
        let above : c < x = ltb-true c x e in inr (above, omega (arith, above))
    by_test false e =
        let at_most : x ≤ c = ltb-false c x e in inl (omega (arith, at_most, n), refl)

lowered-below : (c x N : ℕ) → ¬ (x ≡ c) → c < suc N → x < suc N → lowered c x < N
lowered-below c x N n h k = by_side (lowered_is c x n)
  where
    by_side : ((x < c) × (lowered c x ≡ x)) ⊎ ((c < x) × (suc (lowered c x) ≡ x)) → lowered c x < N
    by_side (inl s) = omega (arith, h, k, s.0, s.1)
    by_side (inr s) = omega (arith, h, k, s.0, s.1)

lowered-same : (c x y : ℕ) → ¬ (x ≡ c) → ¬ (y ≡ c) → lowered c x ≡ lowered c y → x ≡ y
lowered-same c x y n m e = by_sides (lowered_is c x n) (lowered_is c y m)
  where
    by_sides : ((x < c) × (lowered c x ≡ x)) ⊎ ((c < x) × (suc (lowered c x) ≡ x))
        → ((y < c) × (lowered c y ≡ y)) ⊎ ((c < y) × (suc (lowered c y) ≡ y)) → x ≡ y
    by_sides (inl s) (inl t) = omega (arith, e, s.0, s.1, t.0, t.1)
    by_sides (inl s) (inr t) = omega (arith, e, s.0, s.1, t.0, t.1)
    by_sides (inr s) (inl t) = omega (arith, e, s.0, s.1, t.0, t.1)
    by_sides (inr s) (inr t) = omega (arith, e, s.0, s.1, t.0, t.1)

-- n numbers below N that differ from one another
pub pigeonhole : (n N : ℕ) (code : ℕ → ℕ) → ((k : ℕ) → k < n → code k < N)
    → ((i k : ℕ) → i < k → k < n → ¬ (code i ≡ code k)) → n ≤ N
pigeonhole zero N code below apart = omega arith
pigeonhole (suc n) zero code below apart = absurd (omega (arith, below 0 (omega arith)))
pigeonhole (suc n) (suc N) code below apart = step (pigeonhole n N
    (λ k. lowered (code n) (code k))
    (λ k b. lowered-below (code n) (code k) N (apart k n b (omega arith)) (below n (omega arith))
    (below k (omega (arith, b))))
    (λ i k b c e. apart i k b (omega (arith, c)) (lowered-same (code n) (code i) (code k)
    (apart i n (omega (arith, b, c)) (omega arith)) (apart k n c (omega arith)) e)))
  where
    step : n ≤ N → suc n ≤ suc N
    step h = omega (arith, h)
