use Rattle.std.proofs.Common.{◌∙◌, arith, None, false}
use Rattle.lazy_bridge.specs.Expressed.{expr_at, is_marked}
use Rattle.lazy_bridge.proofs.Variables.{groups_all, groups_more}
use Rattle.lazy_bridge.proofs.expressing.forget_groups.Goals as goal

pub loop-group-preserved : goal.loop-group-preserved
loop-group-preserved c =
    let l = c.loop-group in
    let made = c.forget_each.ensures in (
      groups_more (λ _. None) (expr_at c.args.map.now) (expr_at l.map) (expr_at c.forget_each.new.map) c.args.groups.now l.group-index c.group-item.result c.as_slice.result.now c.group-item.is c.loop-group-test.true c.as_slice.ensures l.invariant.0 c.forget_each.ensures.exprs,
      groups_more (λ _. false) (is_marked c.args.map.now) (is_marked l.map) (is_marked c.forget_each.new.map) c.args.groups.now l.group-index c.group-item.result c.as_slice.result.now c.group-item.is c.loop-group-test.true c.as_slice.ensures l.invariant.1 c.forget_each.ensures.marks,
      made.vars ∙ l.invariant.2,
      made.rows ∙ l.invariant.3,
      made.noted ∙ l.invariant.4,
    )

pub returns-clause-exprs : goal.returns-clause-exprs
returns-clause-exprs c =
    let l = c.loop-group in
    groups_all (λ _. None) (expr_at c.args.map.now) (expr_at l.map) c.args.groups.now l.group-index (omega (arith, c.loop-group-test.false)) l.invariant.0

pub returns-clause-marks : goal.returns-clause-marks
returns-clause-marks c =
    let l = c.loop-group in
    groups_all (λ _. false) (is_marked c.args.map.now) (is_marked l.map) c.args.groups.now l.group-index (omega (arith, c.loop-group-test.false)) l.invariant.1
