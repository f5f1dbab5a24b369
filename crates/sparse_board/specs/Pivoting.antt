-- A pivot worked out beside what stands.
use Rattle.std.specs.Prelude.{◌≡◌, ℕ, ◌<◌, IsTrue, List}
use Rattle.tableau_core.specs.BoardNumbers.{quotient_at}
use Rattle.sparse_board.specs.declared.cost_rows.CostRows.{CostRows}
use Rattle.sparse_board.specs.declared.row.Row.{Row}
use Rattle.sparse_board.specs.declared.step.Step.{Step}
use Rattle.sparse_board.specs.Mixed.{IsBoth, units_of}
use Rattle.sparse_board.specs.Lowering.{IsMixedPrepared}
use Rattle.sparse_board.specs.Rows.{number_in_row}
use Rattle.sparse_board.specs.Changes.{AreChangesPrepared, ListsChanges}

-- the pivot's new row stands in the room for it, and each other row that changes is worked out
pub record IsBoardReady (rows : List Row) (r q : ℕ) (items : List ℕ) (count : ℕ) (costs : CostRows)
    (step : Step) : Type 0 where
  pub both : IsBoth step
  pub divided : (j : ℕ) → j < step.width →
      units_of step j ≡ quotient_at (number_in_row rows) r q j
  pub lists : ListsChanges rows r q items count
  pub others : AreChangesPrepared q step items count rows
  pub first_ready : IsTrue costs.in_first → IsMixedPrepared q step costs.first
  pub second_ready : IsMixedPrepared q step costs.second
