use Rattle.bridge_face.specs.ImageOf.{norm_one}
use Rattle.bridges_norm.specs.NormOneLaws.{rule}
use Rattle.bridge_face.specs.FamilyLaws.{child_rows_are, image_is}
use Rattle.bridges_norm.proofs.norm_one.NormOneRewriting.child_rows.Goals as goal

pub returns : goal.returns
returns c =
    child_rows_are c.args._kept.now.edge c.args._kept.now.item (norm_one c.args._kept.now.item)
    (image_is rule c.args._kept.now.edge c.requires.own c.args._kept.now.item)
