use Rattle.std.proofs.Common.{◌++◌, ap, ◌∙◌}
use Rattle.bridges_shape.specs.ScalarizeLaws.{joined_step}
use Rattle.bridges_shape.proofs.scalarize.one_after_another.Goals as goal

pub loop-list-preserved : goal.loop-list-preserved
loop-list-preserved c =
    c.in_ok-extend_from_slice.ensures.items ∙ ap (λ y. c.loop-list.all.items ++ y)
    c.as_slice.ensures
    ∙ joined_step c.args.lists.now c.loop-list.list-index c.list-item.result c.loop-list.all.items
    c.loop-list-test.true c.list-item.is c.loop-list.invariant
