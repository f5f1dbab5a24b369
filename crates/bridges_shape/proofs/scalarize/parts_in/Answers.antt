use Rattle.std.proofs.Common.{◌++◌, ◌∷◌, [], ap, ◌∙◌}
use Rattle.bridge_face.specs.Images.{component_of}
use Rattle.item_core.specs.declared.item.Item.{Item}
use Rattle.bridges_shape.specs.ScalarizeLaws.{row_made, rows_step}
use Rattle.bridges_shape.proofs.scalarize.parts_in.Goals as goal

pub loop-n-preserved : goal.loop-n-preserved
loop-n-preserved g c =
    c.in_ok-push.ensures.items
    ∙ ap (λ (i : Item). c.loop-n.rows.items ++ i ∷ [])
    (row_made c.child.ensures (c.in_ok-body.ensures
    ∙ ap (g.C.Component.made_row c.index-components-n.result) c.part.ensures))
    ∙ rows_step c.args.item.now (λ component. g.C.Component.made_row component
    (component_of c.args.set.now)) c.args.components.now c.loop-n.n c.index-components-n.result
    c.loop-n.rows.items c.loop-n-test.true c.index-components-n.is c.loop-n.invariant
