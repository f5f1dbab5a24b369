use Rattle.std.proofs.Common.{arith, ◌<◌, ◌≤◌}
use Rattle.std_form.proofs.Gathering.{indices_more}
use Rattle.std_form.proofs.terms.index_end.Goals as goal

pub loop-i-init : goal.loop-i-init
loop-i-init c = λ k d b. absurd (omega (arith, b))

pub loop-i-preserved : goal.loop-i-preserved
loop-i-preserved c =
    indices_more c.args.variables.now c.loop-i.i-index c.loop-i.end c.in_ok-end.end _
    c.loop-i.invariant c.loop-i-test.true c.in_ok-end.ensures.keeps c.in_ok-end.ensures.past

pub returns : goal.returns
returns c = λ k d b. c.loop-i.invariant k d (omega (arith, b, c.loop-i-test.false))
