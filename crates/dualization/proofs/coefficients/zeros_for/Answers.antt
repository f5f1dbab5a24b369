use Rattle.dualization.proofs.ZeroLemmas.{zero_more}
use Rattle.dualization.proofs.coefficients.zeros_for.Goals as goal

pub loop-var-preserved : goal.loop-var-preserved
loop-var-preserved c =
    zero_more c.args.vars.now c.loop-var._var-index c._var-item.result c.zero.result
    c.loop-var.zeros.items c.push.new.self.items c._var-item.is c.loop-var-test.true
    c.zero.ensures c.in_ok-push.ensures.items c.loop-var.invariant
