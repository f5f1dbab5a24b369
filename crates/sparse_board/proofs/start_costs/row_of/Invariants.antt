use Rattle.std.proofs.Common.{◌≡◌, length}
use Rattle.tableau_core.specs.Row.{cell}
use Rattle.sparse_board.specs.Numbers.{HoldsBelow, width_of}
use Rattle.sparse_board.proofs.start_costs.row_of.Given as goal

abbrev pub invariant-loop-j : goal.invariant-loop-j
invariant-loop-j l = record {
  width : width_of l.room ≡ length l.numbers;
  held : HoldsBelow l.j (cell l.numbers) l.room;
}
