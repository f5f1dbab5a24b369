use Rattle.std.specs.Prelude.{[]}
use Rattle.bridge_face.specs.FamilyLaws.{child_rows_are, image_is}
use Rattle.bridge_face.specs.Images.{rows_at}
use Rattle.bridges_split.specs.DropRealsLaws.{rule}
use Rattle.bridges_split.proofs.drop_reals.DropRealsRewriting.child_rows.Goals as goal

pub returns : goal.returns
returns c =
    child_rows_are c.args._kept.now.edge c.args._kept.now.item (rows_at c.args._kept.now.item [])
    (image_is rule c.args._kept.now.edge c.requires.own c.args._kept.now.item)
