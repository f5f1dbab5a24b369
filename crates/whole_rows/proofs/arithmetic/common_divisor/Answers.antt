use Rattle.std.proofs.Common.{◌≤◌, ◌∙◌, ap, subst, sym}
use Rattle.ratio_core.specs.Gcd.{gcd, gcd-one, gcd-rem_first}
use Rattle.whole_rows.proofs.RowSteps.{gcd_at_most}
use Rattle.whole_rows.proofs.arithmetic.common_divisor.Goals as goal

pub returns-then-b-eq1-clause-value : goal.returns-then-b-eq1-clause-value
returns-then-b-eq1-clause-value c =
    sym (ap (gcd c.args.a) c.if-b-eq1.true ∙ gcd-one c.args.a)

pub returns-clause-within : goal.returns-clause-within
returns-clause-within c =
    subst (λ x. x ≤ c.args.b)
    (sym (c.narrow_divisor.ensures.value ∙ gcd-rem_first c.args.a c.args.b))
    (gcd_at_most c.args.a c.args.b c.requires)
