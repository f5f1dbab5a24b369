use Rattle.std.proofs.Common.{sym, ◌∙◌, true≢false}
use Rattle.bridge_face.specs.FamilyLaws.{source_is}
use Rattle.bridge_face.proofs.one_objective.OneObjectiveRewriting.back.Goals as goal

pub unreachable-requires : goal.unreachable-requires
unreachable-requires g c =
    let r = g.met.R.ObjectiveRule.rule in
    let source = (source_is r.rule c.args._kept.now.edge c.requires.own c.args._kept.now.item
    c.requires.suits).source in
    true≢false (sym (r.replaces c.args._kept.now.item.body source).source
    ∙ c.requires.duals.no_objective)
