-- The tests of a pivot, in the order in which the code makes them.
use Rattle.std.specs.Prelude.{◌≡◌, ℕ, ◌+◌, ◌<◌, Bool, true, false, ◌||◌, nat_eq, List, length}
use Rattle.std.proofs.Common.{sym, ◌∙◌, ap, subst}
use Rattle.ratio_core.specs.Rational.{Rational}
use Rattle.tableau_core.specs.declared.kept.Row.{Row}
use Rattle.tableau_core.specs.BoardNumbers.{BoardNumbers, costs_fit, differences_fit, numbers_fit, others_fit, quotient_at, quotients_fit}
use Rattle.tableau_core.specs.Row.{IsDivided, cell, lowering_fits}
use Rattle.tableau_core.specs.Rows.{AreWide, now_at, numbers_in, rows_fit}
use Rattle.tableau_core.specs.TestLaws as tests
use Rattle.simplex_laws.specs.SearchLaws.{all_below_same}

-- `step` is the pivot's new row; the cost rows have w numbers
module _ (w : ℕ) (rows : List Row) (r q : ℕ) (in_first : Bool) (first second step : List Rational)
    (row : r < length rows) (wide : AreWide (w + 1) rows)
    (divided : IsDivided (cell (now_at rows r) q) (now_at rows r) step) where
  abbrev K : BoardNumbers
  K = numbers_in rows first second

  divided_is : (j : ℕ) → j < w + 1 → cell step j ≡ quotient_at K.number r q j
  divided_is j b = divided.cells j (subst (λ n. j < n) (sym (wide r row)) b)

  rows-wide : rows_fit r q step rows ≡ others_fit w r q K (cell step)
  rows-wide =
      all_below_same (length rows)
      (λ i. nat_eq i r || lowering_fits q step (now_at rows i))
      (λ i. nat_eq i r || differences_fit (w + 1) (cell (now_at rows i))
      (cell (now_at rows i) q) (cell step))
      (λ i b. ap (λ n. nat_eq i r || differences_fit n (cell (now_at rows i))
      (cell (now_at rows i) q) (cell step)) (wide i b))

  pub others-refused : rows_fit r q step rows ≡ false → numbers_fit w r q in_first K ≡ false
  others-refused e =
      tests.others-refused w r q in_first K (cell step) divided_is (sym rows-wide ∙ e)

  -- the quotients fit, and so do the other rows
  module _ (quotients : quotients_fit (length (now_at rows r)) (cell (now_at rows r))
      (cell (now_at rows r) q) ≡ true) (others : rows_fit r q step rows ≡ true) where
    pub costs-decide : costs_fit w q in_first (cell first) (cell second) (cell step)
        ≡ numbers_fit w r q in_first K
    costs-decide =
        tests.costs-decide w r q in_first K (cell step) divided_is
        (subst (λ n. quotients_fit n (cell (now_at rows r)) (cell (now_at rows r) q) ≡ true)
        (wide r row) quotients) (sym rows-wide ∙ others)
