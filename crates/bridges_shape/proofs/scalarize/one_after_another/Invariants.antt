use Rattle.std.proofs.Common.{◌≡◌, take}
use Rattle.bridge_face.specs.BackOf.{joined}
use Rattle.bridges_shape.proofs.scalarize.one_after_another.Given as goal

abbrev pub invariant-loop-list : goal.invariant-loop-list
invariant-loop-list l = l.all.items ≡ joined (take l.list-index l.lists)
