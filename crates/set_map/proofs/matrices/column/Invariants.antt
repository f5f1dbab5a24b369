use Rattle.std.proofs.Common.{◌≡◌, map, take, slice_index_or}
use Rattle.ratio_core.specs.Rational.{zero_ℚ}
use Rattle.set_map.proofs.matrices.column.Given as goal

abbrev pub invariant-loop-row : goal.invariant-loop-row
invariant-loop-row l =
    l.numbers.items ≡ map (λ row. slice_index_or row l.i zero_ℚ) (take l.row-index l.rows)
