use Rattle.std.proofs.Common.{◌++◌, ◌∙◌, ap}
use Rattle.equality_form.specs.Columns.{slack_at}
use Rattle.equality_form.specs.Equations.{slack_of}
use Rattle.std_form.specs.Borrowed.{equation_in}
use Rattle.std_form.specs.declared.equation.Equation.{Equation}
use Rattle.std_form.proofs.Steps.{slacks_step}
use Rattle.std_form.proofs.cells.slacks.Goals as goal

pub loop-i-preserved : goal.loop-i-preserved
loop-i-preserved c =
    slacks_step equation_in c.args.equations.now c.loop-i.i c.index-equations-i.result
    c.loop-i-test.true c.loop-i.slacks.items c.push_some.new.items.items c.loop-i.invariant
    (c.in_ok-push_some.ensures
    ∙ ap (λ ss. c.loop-i.slacks.items ++ ss) (c.slack_at.ensures
    ∙ ap (λ (e : Equation). slack_at c.loop-i.i (slack_of e.set.now)) c.index-equations-i.is))
