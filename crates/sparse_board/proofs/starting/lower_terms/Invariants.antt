use Rattle.std.proofs.Common.{drop, ◌≡◌}
use Rattle.whole_rows.specs.Rows.{width_of}
use Rattle.sparse_board.proofs.FirstCostSteps.{AreLoweredTo}
use Rattle.sparse_board.proofs.starting.lower_terms.Given as goal

abbrev pub invariant-loop-term : goal.invariant-loop-term
invariant-loop-term l = record {
  width : width_of l.row ≡ width_of l.initial.row;
  den : l.row.den ≡ 1;
  held : AreLoweredTo l.from l.c l.terms (drop l.term-index l.terms) l.initial.row l.row;
}
