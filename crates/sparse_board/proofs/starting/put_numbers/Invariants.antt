use Rattle.std.proofs.Common.{◌≡◌}
use Rattle.whole_rows.specs.Rows.{width_of}
use Rattle.sparse_board.proofs.WholeStartSteps.{AreFirstPut}
use Rattle.sparse_board.proofs.starting.put_numbers.Given as goal

abbrev pub invariant-loop-j : goal.invariant-loop-j
invariant-loop-j l = record {
  width : width_of l.row ≡ width_of l.initial.row;
  den : l.row.den ≡ 1;
  put : AreFirstPut l.j l.numbers l.row;
}
