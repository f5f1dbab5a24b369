use Rattle.std.proofs.Common.{◌∙◌, ap, sym}
use Rattle.ratio_core.specs.Gcd.{gcd, gcd-one}
use Rattle.whole_rows.proofs.shrinking.lesser_divisor.Goals as goal

pub returns-then-common-eq1-clause-value : goal.returns-then-common-eq1-clause-value
returns-then-common-eq1-clause-value c =
    sym (ap (gcd c.args.size) c.if-common-eq1.true ∙ gcd-one c.args.size)
