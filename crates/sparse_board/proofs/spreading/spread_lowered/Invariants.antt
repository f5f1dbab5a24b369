use Rattle.std.proofs.Common.{◌≡◌}
use Rattle.ratio_core.specs.Rational.{◌*ℚ◌, ◌-ℚ◌}
use Rattle.sparse_board.specs.Numbers.{HoldsBelow, width_of}
use Rattle.whole_rows.specs.Rows as whole
use Rattle.sparse_board.proofs.spreading.spread_lowered.Given as goal

abbrev pub invariant-loop-j : goal.invariant-loop-j
invariant-loop-j l = record {
  width : width_of l.wide ≡ l.width;
  held : HoldsBelow l.j (λ j. whole.number_of l.row j
      -ℚ whole.number_of l.row l.q *ℚ whole.number_of l.step j) l.wide;
}
