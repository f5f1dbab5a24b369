use Rattle.std.proofs.Common.{ap, ◌∙◌}
use Rattle.bridge_face.specs.FamilyLaws.{child_rows_are, image_is, record_of, source_is}
use Rattle.bridge_face.specs.Images.{rows_at}
use Rattle.bridges_shape.specs.ScalarizeLaws.{made, row_count, rule}
use Rattle.bridges_shape.proofs.scalarize.ScalarizeRewriting.child_rows.Goals as goal

pub returns : goal.returns
returns c =
    ap (record_of 0) (c.component_count.ensures
    ∙ row_count c.args.kept.now.item.body c.args.kept.now.item
    (source_is rule c.args.kept.now.edge c.requires.own c.args.kept.now.item
    c.requires.suits).row)
    ∙ child_rows_are c.args.kept.now.edge c.args.kept.now.item
    (rows_at c.args.kept.now.item (made c.args.kept.now.item.body))
    (image_is rule c.args.kept.now.edge c.requires.own c.args.kept.now.item)
