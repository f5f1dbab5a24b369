use Rattle.std.proofs.Common.{◌≡◌, length, map, take}
use Rattle.std.specs.List.{range_with_len}
use Rattle.set_map.specs.Matrices.{unit_row}
use Rattle.set_map.proofs.units.is_unit.Given as goal

abbrev pub invariant-loop-i : goal.invariant-loop-i
invariant-loop-i l = take l.i l.rows ≡ map (unit_row (length l.rows)) (range_with_len 0 l.i)
