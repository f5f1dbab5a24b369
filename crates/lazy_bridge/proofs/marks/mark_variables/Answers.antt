use Rattle.std.proofs.Common.{arith, ap, ◌∙◌}
use Rattle.std.proofs.lemmas.List.{take_all}
use Rattle.lazy_bridge.specs.Mentioned.{marks_of}
use Rattle.lazy_bridge.proofs.Marking.{marked_more}
use Rattle.lazy_bridge.proofs.marks.mark_variables.Goals as goal

pub loop-var-init : goal.loop-var-init
loop-var-init c =
    let cleared = c.clear_kept.ensures in (
      cleared.removed,
      cleared.vars,
      cleared.rows,
      cleared.exprs,
      cleared.noted,
    )

pub loop-var-preserved : goal.loop-var-preserved
loop-var-preserved c =
    let all = c.args.kept.now in
    let l = c.loop-var in
    let marked = c.mark_once.ensures in (
      marked_more all l.map.kept c.mark_once.new.map.kept l.var-index c.var-item.result
          c.loop-var-test.true c.var-item.is l.invariant.0 c.in_ok-mark_once.ensures.marked,
      marked.vars ∙ l.invariant.1,
      marked.rows ∙ l.invariant.2,
      marked.exprs ∙ l.invariant.3,
      marked.noted ∙ l.invariant.4,
    )

pub returns-clause-marked : goal.returns-clause-marked
returns-clause-marked c =
    let all = c.args.kept.now in
    let l = c.loop-var in
    l.invariant.0
    ∙ ap marks_of (take_all l.var-index all (omega (arith, c.loop-var-test.false)))
