use Rattle.std.proofs.Common.{drop, ◌≡◌}
use Rattle.sparse_board.specs.Numbers.{width_of}
use Rattle.sparse_board.proofs.StartSteps.{IsHeldTo}
use Rattle.sparse_board.proofs.start.push_row.Given as goal

abbrev pub invariant-loop-term : goal.invariant-loop-term
invariant-loop-term l = record {
  width : width_of l.row ≡ width_of l.initial.row;
  held : IsHeldTo l.from l.c l.terms (drop l.term-index l.terms) l.row;
}
