-- The tests of a pivot, in the order in which a board makes them.
use Rattle.std.specs.Prelude.{◌≡◌, ℕ, ◌+◌, ◌<◌, Bool, true, false, ◌&&◌, ◌||◌, not, nat_eq, refl}
use Rattle.std.proofs.Common.{sym, ◌∙◌, ap, arith}
use Rattle.ratio_core.specs.Rational.{Rational}
use Rattle.simplex_form.specs.Fit.{lowered_fits}
use Rattle.simplex_laws.specs.SearchLaws.{all_below_same}
use Rattle.tableau_core.specs.BoardNumbers.{BoardNumbers, costs_fit, differences_fit, numbers_fit, others_fit, quotient_at, quotients_fit}

differences_same : (w : ℕ) (f : ℕ → Rational) (by : Rational) (u v : ℕ → Rational)
    → ((j : ℕ) → j < w → u j ≡ v j) → differences_fit w f by u ≡ differences_fit w f by v
differences_same w f by u v h =
    all_below_same w (λ j. lowered_fits (f j) by (u j)) (λ j. lowered_fits (f j) by (v j))
    (λ j b. ap (lowered_fits (f j) by) (h j b))

-- the first cost row's test fails, or it doesn't, and the second's decides; w1 and w2 are their
-- widths
module _ (w q : ℕ) (in_first : Bool) (first second u v : ℕ → Rational)
    (same : (j : ℕ) → j < w → u j ≡ v j) where
  first_same : (w1 : ℕ) → w1 ≡ w → (not in_first || differences_fit w1 first (first q) u)
      ≡ (not in_first || differences_fit w first (first q) v)
  first_same w1 e = λ i.
      not in_first
      || (ap (λ n. differences_fit n first (first q) u) e
      ∙ differences_same w first (first q) u v same) i

  pub first-refused : (w1 : ℕ) → w1 ≡ w
      → false ≡ (not in_first || differences_fit w1 first (first q) u)
      → costs_fit w q in_first first second v ≡ false
  first-refused w1 e f =
      ap (λ x. x && differences_fit w second (second q) v) (sym (f ∙ first_same w1 e))

  pub second-decides : (w1 w2 : ℕ) → w1 ≡ w → w2 ≡ w
      → true ≡ (not in_first || differences_fit w1 first (first q) u)
      → differences_fit w2 second (second q) u ≡ costs_fit w q in_first first second v
  second-decides w1 w2 e f t =
      ap (λ n. differences_fit n second (second q) u) f
      ∙ differences_same w second (second q) u v same
      ∙ ap (λ x. x && differences_fit w second (second q) v) (t ∙ first_same w1 e)

-- `step` is the pivot's new row
module _ (w r q : ℕ) (in_first : Bool) (K : BoardNumbers) (step : ℕ → Rational)
    (divided : (j : ℕ) → j < w + 1 → step j ≡ quotient_at K.number r q j) where
  others_same : others_fit w r q K step ≡ others_fit w r q K (quotient_at K.number r q)
  others_same =
      all_below_same K.rows
      (λ i. nat_eq i r || differences_fit (w + 1) (K.number i) (K.number i q) step)
      (λ i. nat_eq i r
      || differences_fit (w + 1) (K.number i) (K.number i q) (quotient_at K.number r q))
      (λ i b. ap (λ x. nat_eq i r || x)
      (differences_same (w + 1) (K.number i) (K.number i q) step (quotient_at K.number r q)
      divided))

  pub others-refused : others_fit w r q K step ≡ false → numbers_fit w r q in_first K ≡ false
  others-refused e =
      false_second (quotients_fit (w + 1) (K.number r) (K.number r q))
      (others_fit w r q K (quotient_at K.number r q))
      (costs_fit w q in_first K.first K.second (quotient_at K.number r q)) (sym others_same ∙ e)
    where
      false_second : (a b c : Bool) → b ≡ false → (a && (b && c)) ≡ false
      false_second true b c e = ap (λ x. x && c) e
      false_second false b c e = refl

  pub costs-decide : quotients_fit (w + 1) (K.number r) (K.number r q) ≡ true
      → others_fit w r q K step ≡ true
      → costs_fit w q in_first K.first K.second step ≡ numbers_fit w r q in_first K
  costs-decide e f =
      costs_same
      ∙ (λ i. sym e i && ((sym f ∙ others_same) i
      && costs_fit w q in_first K.first K.second (quotient_at K.number r q)))
    where
      within : (j : ℕ) → j < w → step j ≡ quotient_at K.number r q j
      within j b = divided j (omega (arith, b))

      costs_same : costs_fit w q in_first K.first K.second step
          ≡ costs_fit w q in_first K.first K.second (quotient_at K.number r q)
      costs_same = λ i.
          (not in_first
          || differences_same w K.first (K.first q) step (quotient_at K.number r q) within i)
          && differences_same w K.second (K.second q) step (quotient_at K.number r q) within i
