use Rattle.std.proofs.Common.{◌+◌, ◌∙◌, arith, drop}
use Rattle.std.proofs.lemmas.List.{drop_all}
use Rattle.map_laws.specs.LoopLaws.{next_item}
use Rattle.lazy_bridge.proofs.Noting.{var_names, noting_more, vars_done}
use Rattle.lazy_bridge.proofs.mentions.note_each.Goals as goal

pub loop-var-preserved : goal.loop-var-preserved
loop-var-preserved c =
    let all = c.args.vars.now in
    let l = c.loop-var in
    let noted = c.set_noted.ensures in (
      noting_more (var_names c.args.item) c.args.noted all (drop l.var-index all)
          (drop (l.var-index + 1) all) c.var-item.result c.args.map.now.noted l.map.noted
          c.set_noted.new.map.noted l.invariant.0
          (next_item all all l.var-index c.var-item.result (λ i. all) c.var-item.is
          c.loop-var-test.true)
          c.in_ok-set_noted.ensures.noted,
      noted.vars ∙ l.invariant.1,
      noted.rows ∙ l.invariant.2,
      noted.exprs ∙ l.invariant.3,
      noted.kept ∙ l.invariant.4,
    )

pub returns-clause-noted : goal.returns-clause-noted
returns-clause-noted c =
    let all = c.args.vars.now in
    let l = c.loop-var in
    vars_done c.args.item c.args.noted all (drop l.var-index all) c.args.map.now.noted l.map.noted
    l.invariant.0 (drop_all l.var-index all (omega (arith, c.loop-var-test.false)))
