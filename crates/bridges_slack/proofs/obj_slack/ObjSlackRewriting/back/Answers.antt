use Rattle.bridge_face.specs.FamilyLaws.{source_is}
use Rattle.std.proofs.Common.{sym, ◌∙◌, true≢false}
use Rattle.bridges_slack.specs.ObjSlackLaws.{read, rule}
use Rattle.bridges_slack.proofs.obj_slack.ObjSlackRewriting.back.Goals as goal

pub unreachable-requires : goal.unreachable-requires
unreachable-requires c =
    true≢false (sym (read (source_is rule c.args._kept.now.edge c.requires.own c.args._kept.now.item
    c.requires.suits).objective).source ∙ c.requires.duals.no_objective)
