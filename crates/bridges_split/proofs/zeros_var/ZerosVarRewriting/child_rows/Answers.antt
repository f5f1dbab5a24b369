use Rattle.bridge_face.specs.FamilyLaws.{child_rows_are, image_is}
use Rattle.bridge_face.specs.ImageOf.{zeros_var}
use Rattle.bridges_split.specs.ZerosVarLaws.{rule}
use Rattle.bridges_split.proofs.zeros_var.ZerosVarRewriting.child_rows.Goals as goal

pub returns : goal.returns
returns c =
    child_rows_are c.args._kept.now.edge c.args._kept.now.item (zeros_var c.args._kept.now.item)
    (image_is rule c.args._kept.now.edge c.requires.own c.args._kept.now.item)
