-- A pivot put in place, and rows worked out by units that agree.
use Rattle.std.specs.Prelude.{◌≡◌, ℕ, ◌+◌, ◌<◌, IsTrue, List, length, Some, slice_set}
use Rattle.std.proofs.Common.{sym, ◌∙◌, ap, subst}
use Rattle.std.proofs.lemmas.List.{length-set}
use Rattle.tableau_core.specs.KeptLaws.{settled_by}
use Rattle.tableau_core.specs.BoardNumbers.{AreLess, IsSettled}
use Rattle.tableau_core.specs.ItemLaws.{each_written, written_at, written_off}
use Rattle.sparse_board.specs.declared.cost_rows.CostRows.{CostRows}
use Rattle.sparse_board.specs.declared.row.Row.{Row}
use Rattle.sparse_board.specs.declared.mixed_row.MixedRow.{MixedRow}
use Rattle.sparse_board.specs.declared.step.Step.{Step}
use Rattle.sparse_board.specs.Mixed.{IsMixedLowered, number_of, units_of, width_of}
use Rattle.sparse_board.specs.Rows.{AreSparseRowsLowered, AreSparseRowsWide, SameWidths, now_at, now_of, numbers, numbers_in, width_at}
use Rattle.sparse_board.specs.Pivoting.{IsBoardReady}

-- the other rows first, and then the pivot's
module _ (before middle : List Row) (r : ℕ) (step : Step) (new : Row)
    (count : length middle ≡ length before) (row : r < length before) where
  new_row : now_at (slice_set middle r new) r ≡ Some new.now
  new_row = ap now_of (written_at middle r new (subst (λ n. r < n) (sym count) row))

  pub settled-wide : (n : ℕ) → width_of new.now ≡ n → AreSparseRowsWide n before
      → SameWidths before middle
      → AreSparseRowsWide n (slice_set middle r new)
  settled-wide n long wide same =
      each_written (λ i o. i < length (slice_set middle r new) → width_at (now_of o) ≡ n) middle r
      new (subst (λ k. r < k) (sym count) row)
      (λ _. long) (λ i m b. same i
      ∙ wide i (subst (λ k. i < k) (length-set middle r new ∙ count) b))

  module _ (w q : ℕ) (costs next : CostRows)
      (wide : AreSparseRowsWide (w + 1) before) (long : step.width ≡ w + 1) (items : List ℕ) (n : ℕ)
      (ready : IsBoardReady before r q items n costs step)
      (is : (j : ℕ) → j < w + 1 → number_of new.now j ≡ units_of step j)
      (low : AreSparseRowsLowered r q (units_of step) before middle) where
    lowered_by : (row after : MixedRow) → width_of row ≡ w
        → IsMixedLowered (number_of row q) (units_of step) row after
        → AreLess w q (units_of step) (number_of row) (number_of after)
    lowered_by row after e l j b = l.numbers j (subst (λ n. j < n) (sym e) b)

    pub settled-all : width_of costs.first.now ≡ w → width_of costs.second.now ≡ w
        → (IsTrue costs.in_first → IsMixedLowered (number_of costs.first.now q) (units_of step)
        costs.first.now next.first.now)
        → IsMixedLowered (number_of costs.second.now q) (units_of step) costs.second.now next.second.now
        → IsSettled w r q costs.in_first (numbers_in before costs.first.now costs.second.now)
        (numbers_in (slice_set middle r new) next.first.now next.second.now)
    settled-all f s first_low second_low =
        settled_by w r q costs.in_first (numbers_in before costs.first.now costs.second.now)
        (numbers_in (slice_set middle r new) next.first.now next.second.now) (units_of step)
        (λ j b. ap (λ o. numbers o j) new_row ∙ is j b)
        (λ j b. ready.divided j (subst (λ n. j < n) (sym long) b))
        (λ i b m j c. ap (λ o. numbers (now_of o) j) (written_off middle r i new m)
        ∙ low i b m j (subst (λ n. j < n) (sym (wide i b)) c))
        (λ u. lowered_by costs.first.now next.first.now f (first_low u))
        (lowered_by costs.second.now next.second.now s second_low)
