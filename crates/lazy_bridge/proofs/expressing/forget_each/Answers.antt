use Rattle.std.proofs.Common.{◌∙◌, arith, None, false}
use Rattle.lazy_bridge.specs.Expressed.{expr_at, is_marked}
use Rattle.lazy_bridge.proofs.Variables.{vars_all, vars_more}
use Rattle.lazy_bridge.proofs.expressing.forget_each.Goals as goal

pub loop-var-preserved : goal.loop-var-preserved
loop-var-preserved c =
    let l = c.loop-var in
    let made = c.forget.ensures in (
      vars_more (λ _. None) (expr_at c.args.map.now) (expr_at l.map) (expr_at c.forget.new.map) c.args.vars.now l.var-index c.var-item.result c.root.result c.var-item.is c.loop-var-test.true c.root.ensures l.invariant.0 c.forget.ensures.exprs,
      vars_more (λ _. false) (is_marked c.args.map.now) (is_marked l.map) (is_marked c.forget.new.map) c.args.vars.now l.var-index c.var-item.result c.root.result c.var-item.is c.loop-var-test.true c.root.ensures l.invariant.1 c.forget.ensures.marks,
      made.vars ∙ l.invariant.2,
      made.rows ∙ l.invariant.3,
      made.noted ∙ l.invariant.4,
    )

pub returns-clause-exprs : goal.returns-clause-exprs
returns-clause-exprs c =
    let l = c.loop-var in
    vars_all (λ _. None) (expr_at c.args.map.now) (expr_at l.map) c.args.vars.now l.var-index (omega (arith, c.loop-var-test.false)) l.invariant.0

pub returns-clause-marks : goal.returns-clause-marks
returns-clause-marks c =
    let l = c.loop-var in
    vars_all (λ _. false) (is_marked c.args.map.now) (is_marked l.map) c.args.vars.now l.var-index (omega (arith, c.loop-var-test.false)) l.invariant.1
