use Rattle.bridge_face.specs.FamilyLaws.{child_rows_are, image_is}
use Rattle.bridge_face.specs.ImageOf.{objective_at}
use Rattle.bridge_face.proofs.one_objective.OneObjectiveRewriting.child_rows.Goals as goal

pub returns : goal.returns
returns g c =
    let r = g.met.R.ObjectiveRule.rule in
    child_rows_are c.args._kept.now.edge c.args._kept.now.item (objective_at c.args._kept.now.item
    (g.R.ObjectiveRule.made c.args._kept.now.item.body))
    (image_is r.rule c.args._kept.now.edge c.requires.own c.args._kept.now.item)
