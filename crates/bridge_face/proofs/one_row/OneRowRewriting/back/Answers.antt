use Rattle.std.proofs.Common.{arith}
use Rattle.bridge_face.specs.FamilyLaws.{source_is}
use Rattle.bridge_face.specs.OneRowLaws.{dual_answer, dual_size, one_dual}
use Rattle.bridge_face.proofs.one_row.OneRowRewriting.back.Goals as goal

pub bounds-duals-0 : goal.bounds-duals-0
bounds-duals-0 g c =
    let one = one_dual g.met.R.RowRule.rule c.args.kept.now.edge c.requires.own c.args.kept.now.item
    c.args.duals.now c.requires.duals in
    omega (arith, one)

pub back-requires-clause-suits : goal.back-requires-clause-suits
back-requires-clause-suits g c =
    let r = g.met.R.RowRule.rule in
    (source_is r.rule c.args.kept.now.edge c.requires.own c.args.kept.now.item
    c.requires.suits).source

pub back-requires-clause-size : goal.back-requires-clause-size
back-requires-clause-size g c =
    dual_size g.met.R.RowRule.rule c.args.kept.now.edge c.requires.own c.args.kept.now.item
    c.args.duals.now c.requires.duals c.index-duals-0.result c.index-duals-0.is

pub returns : goal.returns
returns g c =
    dual_answer g.met.R.RowRule.rule c.args.kept.now.edge c.requires.own c.args.kept.now.item
    c.args.duals.now c.requires.duals c.index-duals-0.result c.index-duals-0.is c.back.result
    c.back.ensures
