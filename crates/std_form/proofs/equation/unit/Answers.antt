use Rattle.std.proofs.Common.{◌∙◌}
use Rattle.std_form.proofs.Coefficients.{unit_other, unit_same}
use Rattle.std_form.proofs.equation.unit.Goals as goal

pub returns-then-var-i : goal.returns-then-var-i
returns-then-var-i c = c.one.ensures ∙ unit_same c.args.var c.args.i c.if-var-i.true

pub returns-else-var-i : goal.returns-else-var-i
returns-else-var-i c = c.zero.ensures ∙ unit_other c.args.var c.args.i c.if-var-i.false
