use Rattle.std.proofs.Common.{arith, rules, sym, ap, subst, length}
use Rattle.std.specs.Vec.Iter.{into_iter_items}
use Rattle.lazy_bridge.proofs.Expressions.{PutSoFar, put_next, put_start}
use Rattle.lazy_bridge.proofs.change.put_expressions.Goals as goal

pub loop-at-init : goal.loop-at-init
loop-at-init c =
    let gives = c.into_iter-at-iterator.ensures.into_iter_gives in (
      subst (PutSoFar c.args.map.now c.args.map.now c.args.exprs.items) (sym gives.0)
          (put_start c.args.map.now c.args.exprs.items c.requires.none),
      search rules,
      tt,
      tt,
    )

pub loop-at-preserved : goal.loop-at-preserved
loop-at-preserved c =
    let l = c.loop-at in (
      put_next c.args.map.now l.map c.put_expr.new.self c.args.exprs.items
          (into_iter_items l.at-iterator)
          (into_iter_items c.next.new.self) c.in-Some.at c.in-Some.func l.invariant.0
          c.in-Some.ensures.steps.0 c.requires.apart c.in_ok-put_expr.ensures.ok
          c.put_expr.ensures.vars c.put_expr.ensures.rows c.put_expr.ensures.noted
          c.put_expr.ensures.kept,
      let was = l.invariant.1 in
          let gone = c.in-Some.ensures.steps.1 in
          let short = ap length c.in-Some.ensures.steps.0 in
          omega arith,
      tt,
      tt,
    )
