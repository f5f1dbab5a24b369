use Rattle.std.proofs.Common.{◌∙◌, arith}
use Rattle.bridge_face.specs.FamilyLaws.{back_fits}
use Rattle.bridge_face.specs.GroupLaws.{group_dual, group_one_dual}
use Rattle.bridge_face.proofs.one_group.OneGroupRewriting.back.Goals as goal

pub bounds-duals-0 : goal.bounds-duals-0
bounds-duals-0 g c =
    let one = group_one_dual g.met.R.GroupRule.rule c.args._kept.now.edge c.requires.own
    c.args._kept.now.item c.requires.suits c.args.duals.now c.requires.duals in
    omega (arith, one)

pub returns : goal.returns
returns g c =
    let r = g.met.R.GroupRule.rule in (
      back_fits c.args._kept.now.edge c.requires.own r.no_dual_sum c.args._kept.now.item
          c.args.duals.now,
      c.in_ok-copy.ensures
          ∙ group_dual r c.args._kept.now.edge c.requires.own c.args._kept.now.item c.requires.suits
          c.args.duals.now c.requires.duals c.index-duals-0.result c.index-duals-0.is,
    )
