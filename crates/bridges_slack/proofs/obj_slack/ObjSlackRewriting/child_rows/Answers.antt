use Rattle.bridge_face.specs.FamilyLaws.{child_rows_are, image_is}
use Rattle.bridge_face.specs.ImageOf.{obj_slack}
use Rattle.bridges_slack.specs.ObjSlackLaws.{rule}
use Rattle.bridges_slack.proofs.obj_slack.ObjSlackRewriting.child_rows.Goals as goal

pub returns : goal.returns
returns c =
    child_rows_are c.args._kept.now.edge c.args._kept.now.item (obj_slack c.args._kept.now.item)
    (image_is rule c.args._kept.now.edge c.requires.own c.args._kept.now.item)
