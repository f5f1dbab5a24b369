use Rattle.std.proofs.Common.{ap, ◌∙◌}
use Rattle.bridge_face.specs.FamilyLaws.{record_of}
use Rattle.bridge_face.specs.GroupLaws.{group_rows}
use Rattle.bridge_face.proofs.one_group.OneGroupRewriting.child_rows.Goals as goal

pub returns : goal.returns
returns g c =
    ap (record_of 1) c.rows.ensures
    ∙ group_rows g.met.R.GroupRule.rule c.args._kept.now.edge c.requires.own c.args._kept.now.item
