use Rattle.std.proofs.Common.{ap, of_z, to_z-of_z}
use mir.Syntax.{w128}
use Rattle.ratio_core.proofs.Kept.{exact_along, fraction_signs}
use Rattle.ratio_core.proofs.fraction.Ratio.new.Goals as goal

pub returns-clause-exact : goal.returns-clause-exact
returns-clause-exact c =
    exact_along c.lowest.result _ _
    (fraction_signs c.args.n c.args.d _ _ _ _ (to_z-of_z c.ranges.n) (to_z-of_z c.ranges.d)
    c.unsigned_abs.ensures.value c.unsigned_abs-2.ensures.value)
    (λ e. c.if-d-eq0.false (ap (of_z w128) e))
    c.lowest.ensures.exact
