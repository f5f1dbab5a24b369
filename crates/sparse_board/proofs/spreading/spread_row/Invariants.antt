use Rattle.std.proofs.Common.{◌≡◌}
use Rattle.sparse_board.specs.Numbers.{HoldsBelow, width_of}
use Rattle.whole_rows.specs.Rows as whole
use Rattle.sparse_board.proofs.spreading.spread_row.Given as goal

abbrev pub invariant-loop-j : goal.invariant-loop-j
invariant-loop-j l = record {
  width : width_of l.wide ≡ l.width;
  held : HoldsBelow l.j (whole.number_of l.row) l.wide;
}
