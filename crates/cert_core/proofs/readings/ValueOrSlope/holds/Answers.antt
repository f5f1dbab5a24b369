use Rattle.std.specs.Prelude.{Ok}
use Rattle.std.proofs.Common.{subst, sym}
use Rattle.ratio_core.specs.Rational.{one_ℚ, zero_ℚ}
use Rattle.set_core.specs.Membership.{In, MembershipFits, recession}
use Rattle.set_core.specs.Mirrored.{multiplied}
use Rattle.set_laws.specs.Multiples.{multiplied_one, multiplied_zero}
use Rattle.cert_core.specs.Answers.{TellsWhereFits}
use Rattle.cert_core.specs.Readings.{one_of}
use Rattle.cert_core.proofs.Evaluated.{told_in}
use Rattle.cert_core.proofs.readings.ValueOrSlope.holds.Goals as goal

pub returns-in_ok-holds-in-Value : goal.returns-in_ok-holds-in-Value
returns-in_ok-holds-in-Value c =
    let set = c.args.set.now in
    let v = c.args.v.now in
    subst (λ k. TellsWhereFits (Ok c.in_ok-holds-in-Value.field-0) (MembershipFits set v)
    (In (multiplied (one_of k) set) v)) (sym c.in-Value.is)
    (told_in (Ok c.in_ok-holds-in-Value.field-0) (MembershipFits set v) set (multiplied one_ℚ set) v
    (multiplied_one set) c.in_ok-holds-in-Value.ensures)

pub returns-in_ok-recession_holds-in-Slope : goal.returns-in_ok-recession_holds-in-Slope
returns-in_ok-recession_holds-in-Slope c =
    let set = c.args.set.now in
    let v = c.args.v.now in
    subst (λ k. TellsWhereFits (Ok c.in_ok-recession_holds-in-Slope.field-0) (MembershipFits set v)
    (In (multiplied (one_of k) set) v)) (sym c.in-Slope.is)
    (told_in (Ok c.in_ok-recession_holds-in-Slope.field-0) (MembershipFits set v) (recession set)
    (multiplied zero_ℚ set) v (multiplied_zero set) c.in_ok-recession_holds-in-Slope.ensures)
