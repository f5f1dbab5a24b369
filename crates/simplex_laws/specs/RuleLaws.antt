-- What the choices of Bland's rule mean, in terms of prices, entries and ratios.
use Rattle.std.specs.Prelude.{◌≡◌, ℕ, ◌<◌, ◌≤◌, Bool, true, false, ◌&&◌, ◌||◌, not, nat_lt, Option, Some, None, unwrap_or, if◌then◌else◌, refl}
use Rattle.std.proofs.Common.{inl, inr, sym, ◌∙◌, ap, arith, subst, true≢false}
use Rattle.std.proofs.lemmas.Bool.{cond-true, le-leb, leb-true, ltb-false, ltb-true}
use Rattle.std.proofs.lemmas.Option.{none-some}
use Rattle.ratio_core.specs.Rational.{Rational, rational_eq, zero_ℚ, ◌≤ℚ◌}
use Rattle.ratio_core.specs.RationalLaws.{rational_eq-false, rational_eq-true}
use Rattle.rational_laws.specs.Order.{‹ℚ-≤ℚ_trans, ‹ℚ_from_≤ℚ_and_not, ≤ℚ_from_‹ℚ, ≤ℚ_from_≡, ≤ℚ-‹ℚ_trans}
use Rattle.rational_laws.specs.Tests.{ge_from_failed, lt_from_test, nonzero_from_test, test_from_lt, zero_from_test}
use Rattle.simplex_form.specs.Board.{price}
use Rattle.simplex_form.specs.Readings.{Readings, basic_at}
use Rattle.simplex_form.specs.Standing.{Enters, HasNoNegativePrice, HasNoPositiveEntry, IsRatioBefore, IsSwept, LeavesBasis, Sweeps}
use Rattle.simplex_form.specs.Turns.{entering, is_artificial, is_below, leaves_before, leaving, ratio, swept_column, swept_entry, swept_in}
use Rattle.simplex_laws.specs.SearchLaws.{IsBest, IsLeast, IsLeastRow, best_below_is, least_below_is, least_row_is}

-- ---- the entering column

abbrev pub IsEntering : Readings → (ℕ → Rational) → Option ℕ → Type 0
IsEntering R price None = HasNoNegativePrice R price
IsEntering R price (Some q) = Enters R price q

pub entering_is : (R : Readings) (price : ℕ → Rational) → IsEntering R price (entering R price)
entering_is R price =
    meaning (entering R price) (least_below_is R.reals (λ j. is_below (price j) zero_ℚ))
  where
    meaning : (o : Option ℕ) → IsLeast R.reals (λ j. is_below (price j) zero_ℚ) o
        → IsEntering R price o
    meaning None h = λ j b. ge_from_failed (price j) zero_ℚ (h j b)
    meaning (Some q) h = record {
      real = h.0;
      negative = lt_from_test (price q) zero_ℚ h.1;
      least = λ j b. ge_from_failed (price j) zero_ℚ (h.2 j b);
    }

-- ---- the leaving row

abbrev pub IsLeaving : Readings → ℕ → Option ℕ → Type 0
IsLeaving R q None = HasNoPositiveEntry R q
IsLeaving R q (Some r) = LeavesBasis R q r

pub at_most_from_first : (p q : Rational) (a b : ℕ) → IsRatioBefore p a q b → p ≤ℚ q
at_most_from_first p q a b (inl h) = ≤ℚ_from_‹ℚ p q h
at_most_from_first p q a b (inr h) = ≤ℚ_from_≡ p q h.0

first_chain : (p q r : Rational) (a b c : ℕ) → IsRatioBefore p a q b → IsRatioBefore q b r c
    → IsRatioBefore p a r c
first_chain p q r a b c (inl h) k = inl (‹ℚ-≤ℚ_trans p q r h (at_most_from_first q r b c k))
first_chain p q r a b c (inr h) (inl k) = inl (≤ℚ-‹ℚ_trans p q r (≤ℚ_from_≡ p q h.0) k)
first_chain p q r a b c (inr h) (inr k) = inr (h.0 ∙ k.0, omega (arith, h.1, k.1))

first_from_test : (p q : Rational) (a b : ℕ)
    → (is_below p q || rational_eq p q && nat_lt a b) ≡ true → IsRatioBefore p a q b
first_from_test p q a b = by_tests (is_below p q) (rational_eq p q) (nat_lt a b) refl refl refl
  where
    by_tests : (u v w : Bool) → is_below p q ≡ u → rational_eq p q ≡ v → nat_lt a b ≡ w
        → (u || v && w) ≡ true → IsRatioBefore p a q b
    by_tests true v w e f g h = inl (lt_from_test p q e)
    by_tests false true true e f g h = inr (rational_eq-true p q f, omega (arith, ltb-true a b g))
    by_tests false true false e f g h = absurd (true≢false (sym h))
    by_tests false false w e f g h = absurd (true≢false (sym h))

first_from_failed : (p q : Rational) (a b : ℕ)
    → (is_below p q || rational_eq p q && nat_lt a b) ≡ false → IsRatioBefore q b p a
first_from_failed p q a b = by_tests (is_below p q) (rational_eq p q) (nat_lt a b) refl refl refl
  where
    by_tests : (u v w : Bool) → is_below p q ≡ u → rational_eq p q ≡ v → nat_lt a b ≡ w
        → (u || v && w) ≡ false → IsRatioBefore q b p a
    by_tests true v w e f g h = absurd (true≢false h)
    by_tests false true true e f g h = absurd (true≢false h)
    by_tests false true false e f g h = inr (sym (rational_eq-true p q f), ltb-false a b g)
    by_tests false false w e f g h =
        inl (‹ℚ_from_≤ℚ_and_not q p (ge_from_failed p q e) (λ k. rational_eq-false p q f (sym k)))

pub leaving_is : (R : Readings) (q : ℕ) → IsLeaving R q (leaving R q)
leaving_is R q = meaning (leaving R q) (best_below_is R.rows test (leaves_before R q) Before
    (λ i. inr (refl, omega arith)) (λ i j k. first_chain (at i) (at j) (at k) (basic_at R i)
    (basic_at R j) (basic_at R k)) (λ i k. first_from_test (at i) (at k) (basic_at R i)
    (basic_at R k)) (λ i k. first_from_failed (at i) (at k) (basic_at R i) (basic_at R k)))
  where
    test : ℕ → Bool
    test i = is_below zero_ℚ (R.entry q i)

    at : ℕ → Rational
    at i = ratio R q i

    Before : ℕ → ℕ → Type 0
    Before i k = IsRatioBefore (ratio R q i) (basic_at R i) (ratio R q k) (basic_at R k)

    meaning : (o : Option ℕ) → IsBest R.rows test Before o → IsLeaving R q o
    meaning None h = λ i b. ge_from_failed zero_ℚ (R.entry q i) (h i b)
    meaning (Some r) h = record {
      row = h.0;
      above = lt_from_test zero_ℚ (R.entry q r) h.1;
      least = λ i b k. h.2 i b (test_from_lt zero_ℚ (R.entry q i) k);
    }

-- ---- the sweep

abbrev pub IsSweep : Readings → Option (ℕ × ℕ) → Type 0
IsSweep R None = IsSwept R
IsSweep R (Some found) = Sweeps R found.0 found.1

module _ (R : Readings) where
  abbrev ColumnMeans : ℕ → Option ℕ → Type 0
  ColumnMeans i o = IsLeast R.reals (λ j. not (rational_eq (R.entry j i) zero_ℚ)) o

  -- an artificial row with no column has only 0
  zeros_from_None : (i : ℕ) → swept_in R i ≡ None → R.reals ≤ basic_at R i → (j : ℕ) → j < R.reals
      → R.entry j i ≡ zero_ℚ
  zeros_from_None i e h = by_column (swept_column R i)
      (least_below_is R.reals (λ j. not (rational_eq (R.entry j i) zero_ℚ)))
      (sym (cond-true (is_artificial R (basic_at R i)) (swept_column R i) None
      (le-leb R.reals (basic_at R i) h)) ∙ e)
    where
      by_column : (o : Option ℕ) → ColumnMeans i o → o ≡ None → (j : ℕ) → j < R.reals
          → R.entry j i ≡ zero_ℚ
      by_column None h e j b = zero_from_test (R.entry j i) (h j b)
      by_column (Some k) h e j b = absurd (none-some k (sym e))

  sweeps_from_Some : (r q : ℕ) → r < R.rows → swept_in R r ≡ Some q
      → ((i : ℕ) → i < r → swept_in R i ≡ None) → Sweeps R r q
  sweeps_from_Some r q b e before = by_test (is_artificial R (basic_at R r)) refl e
    where
      by_column : R.reals ≤ basic_at R r → (o : Option ℕ) → ColumnMeans r o → o ≡ Some q
          → Sweeps R r q
      by_column a None h e = absurd (none-some q e)
      by_column a (Some k) h e =
          let same : k ≡ q = ap (λ o. unwrap_or o 0) e in
          record {
            row = b;
            artificial = a;
            real = subst (λ j. j < R.reals) same h.0;
            other = nonzero_from_test (R.entry q r) (subst (λ j. not
                (rational_eq (R.entry j r) zero_ℚ) ≡ true) same h.1);
            least_column =
                λ j c. zero_from_test (R.entry j r) (h.2 j (subst (λ n. j < n) (sym same) c));
            least_row = λ i j c g d. zeros_from_None i (before i c) g j d;
          }

      by_test : (t : Bool) → is_artificial R (basic_at R r) ≡ t
          → (if t then swept_column R r else None) ≡ Some q → Sweeps R r q
      by_test true a e = by_column (leb-true R.reals (basic_at R r) a) (swept_column R r)
          (least_below_is R.reals (λ j. not (rational_eq (R.entry j r) zero_ℚ))) e
      by_test false a e = absurd (none-some q e)

  pub swept_entry_is : IsSweep R (swept_entry R)
  swept_entry_is = meaning (swept_entry R) (least_row_is R.rows (swept_in R))
    where
      meaning : (o : Option (ℕ × ℕ)) → IsLeastRow R.rows (swept_in R) o → IsSweep R o
      meaning None h = λ i j b a c. zeros_from_None i (h i b) a j c
      meaning (Some found) h = sweeps_from_Some found.0 found.1 h.0 h.1 h.2
