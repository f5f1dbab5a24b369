use Rattle.std.proofs.Common.{◌≡◌, map}
use Rattle.std.specs.List.{range_with_len}
use Rattle.set_map.specs.Matrices.{column}
use Rattle.set_map.proofs.matrices.transposed.Given as goal

abbrev pub invariant-loop-i : goal.invariant-loop-i
invariant-loop-i l = l.columns.items ≡ map (column l.rows) (range_with_len 0 l.i)
