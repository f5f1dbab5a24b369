-- A row of fractions that is lowered by the fractions of a step, of which it may have fewer columns.
use Rattle.std.specs.Prelude.{◌≡◌, ℕ, ◌<◌, ◌≤◌, true, List, take}
use Rattle.std.proofs.Common.{sym, ◌∙◌, ap, arith, subst}
use Rattle.ratio_core.specs.Rational.{Rational, ◌*ℚ◌, ◌-ℚ◌}
use Rattle.simplex_form.specs.Fit.{lowered_fits}
use Rattle.simplex_laws.specs.SearchLaws.{all_below_same}
use Rattle.tableau_core.specs.BoardNumbers.{differences_fit}
use Rattle.sparse_board.specs.declared.entry.Entry.{Entry}
use Rattle.sparse_board.specs.declared.mixed_row.MixedRow.{MixedRow}
use Rattle.sparse_board.specs.declared.sparse_row.SparseRow.{SparseRow}
use Rattle.sparse_board.specs.declared.step.Step.{Step}
use Rattle.sparse_board.specs.Lowering.{IsMixedLoweredBeside, IsSparseLowered}
use Rattle.sparse_board.specs.Mixed.{IsBoth, number_of, units_of, width_of}
use Rattle.sparse_board.specs.Numbers as sparse
use Rattle.sparse_board.specs.Sparse.{AreColumnsSplit, AreUnits, number_among}
use Rattle.sparse_board.proofs.MixedSteps.{number_wide}
use Rattle.sparse_board.proofs.RowSteps.{taken_numbers, taken_units}

module _ (row : MixedRow) (step : Step) (n : ℕ) (entries : List Entry)
    (split : AreColumnsSplit row.width n (sparse.row_columns step.wide))
    (e : entries ≡ step.wide.entries.items) (wide : row.is_wide ≡ true) where
  pub wide_units : AreUnits (sparse.width_of row.wide) (take n entries)
  wide_units =
      subst (λ w. AreUnits w (take n entries)) (sym (row.full wide))
      (taken_units step.wide row.width n split entries e)

  module _ (spread : step.is_spread ≡ true) (both : IsBoth step) (few : row.width ≤ step.width) where
    unit_is : (j : ℕ) → j < row.width → number_among (take n entries) j ≡ units_of step j
    unit_is j b =
        taken_numbers step.wide row.width n split entries e j b
        ∙ both spread j (below_lem j row.width step.width b few)
      where
        below_lem : (j x y : ℕ) → j < x → x ≤ y → j < y
        below_lem j x y b h = omega (arith, b, h)

    module _ (by : Rational) where
      pub wide_fits : differences_fit (sparse.width_of row.wide) (sparse.number_of row.wide) by
          (number_among (take n entries))
          ≡ differences_fit (width_of row) (number_of row) by (units_of step)
      wide_fits =
          ap (λ w. differences_fit w (sparse.number_of row.wide) by (number_among (take n entries)))
          (row.full wide)
          ∙ all_below_same row.width
          (λ j. lowered_fits (sparse.number_of row.wide j) by (number_among (take n entries) j))
          (λ j. lowered_fits (number_of row j) by (units_of step j))
          (λ j b i. lowered_fits (sym (number_wide row wide j) i) by (unit_is j b i))

      pub wide_lowered : (next : SparseRow)
          → IsSparseLowered by (number_among (take n entries)) row.wide next
          → IsMixedLoweredBeside by (units_of step) row next
      wide_lowered next low = record {
        width = low.width ∙ row.full wide;
        numbers = λ j b. low.numbers j (subst (λ w. j < w) (sym (row.full wide)) b)
            ∙ (λ i. sym (number_wide row wide j) i -ℚ by *ℚ unit_is j b i);
      }
