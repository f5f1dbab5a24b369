use Rattle.std.proofs.Common.{◌≡◌, take}
use Rattle.set_map.specs.Matrices.{unit_row}
use Rattle.set_map.proofs.units.is_unit_row.Given as goal

abbrev pub invariant-loop-j : goal.invariant-loop-j
invariant-loop-j l = take l.j l.row ≡ take l.j (unit_row l.size l.i)
