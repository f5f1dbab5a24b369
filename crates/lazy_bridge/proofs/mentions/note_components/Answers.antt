use Rattle.std.proofs.Common.{◌+◌, ◌∙◌, arith, drop}
use Rattle.std.proofs.lemmas.List.{drop_all}
use Rattle.map_laws.specs.LoopLaws.{next_item}
use Rattle.lazy_bridge.proofs.Noting.{function_names, noting_more, functions_done}
use Rattle.lazy_bridge.proofs.mentions.note_components.Goals as goal

pub loop-func-preserved : goal.loop-func-preserved
loop-func-preserved c =
    let all = c.args.funcs.now in
    let l = c.loop-func in
    let noted = c.note_terms.ensures in (
      noting_more (function_names c.args.item) c.args.noted all (drop l.func-index all)
          (drop (l.func-index + 1) all) c.func-item.result c.args.map.now.noted l.map.noted
          c.note_terms.new.map.noted l.invariant.0
          (next_item all all l.func-index c.func-item.result (λ i. all) c.func-item.is
          c.loop-func-test.true)
          c.in_ok-note_terms.ensures.noted,
      noted.vars ∙ l.invariant.1,
      noted.rows ∙ l.invariant.2,
      noted.exprs ∙ l.invariant.3,
      noted.kept ∙ l.invariant.4,
    )

pub returns-clause-noted : goal.returns-clause-noted
returns-clause-noted c =
    let all = c.args.funcs.now in
    let l = c.loop-func in
    functions_done c.args.item c.args.noted all (drop l.func-index all) c.args.map.now.noted l.map.noted
    l.invariant.0 (drop_all l.func-index all (omega (arith, c.loop-func-test.false)))
