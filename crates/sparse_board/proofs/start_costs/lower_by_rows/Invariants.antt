use Rattle.std.proofs.Common.{◌*◌, ◌≤◌, length}
use Rattle.sparse_ratios.specs.Terms.{AreTermsSplit}
use Rattle.sparse_board.proofs.FirstCostSteps.{AreOwed}
use Rattle.sparse_board.proofs.start_costs.lower_by_rows.Given as goal

abbrev pub invariant-loop-i : goal.invariant-loop-i
invariant-loop-i l = record {
  few : l.from ≤ length l.terms;
  split : AreTermsSplit (l.i * l.c) l.from l.terms;
  owed : AreOwed l.m l.c l.matrix l.i l.row;
}
