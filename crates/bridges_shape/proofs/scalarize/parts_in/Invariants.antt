use Rattle.std.proofs.Common.{◌≡◌, map, take}
use Rattle.bridge_face.specs.Images.{children_from, component_of}
use Rattle.bridges_shape.proofs.scalarize.parts_in.Given as goal

abbrev pub invariant-loop-n : goal.invariant-loop-n
invariant-loop-n g l =
    l.rows.items ≡ children_from l.item 0 (map (λ component. g.C.Component.made_row component
    (component_of l.set)) (take l.n l.components))
