use Rattle.std.proofs.Common.{◌≡◌, length, map, take}
use Rattle.bridge_face.specs.BackOf.{size}
use Rattle.bridge_tests.proofs.duals.of_rows.Given as goal

abbrev pub invariant-loop-row : goal.invariant-loop-row
invariant-loop-row l = map length l.duals.items ≡ map size (take l.row-index l.rows)
