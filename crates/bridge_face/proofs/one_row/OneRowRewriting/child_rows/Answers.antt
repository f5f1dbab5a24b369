use Rattle.bridge_face.specs.FamilyLaws.{child_rows_are, image_is}
use Rattle.bridge_face.specs.Images.{row_at}
use Rattle.bridge_face.proofs.one_row.OneRowRewriting.child_rows.Goals as goal

pub returns : goal.returns
returns g c =
    let r = g.met.R.RowRule.rule in
    child_rows_are c.args._kept.now.edge c.args._kept.now.item
    (row_at c.args._kept.now.item (g.R.RowRule.made c.args._kept.now.item.body))
    (image_is r.rule c.args._kept.now.edge c.requires.own c.args._kept.now.item)
