use Rattle.std.proofs.Common.{◌≡◌, ◌∙◌, ap, arith, of_z, to_z, to_z-of_z, w8}
use Rattle.std.proofs.lemmas.Int.{ints}
use Rattle.std.specs.Int.{int_signum}
use mir.Syntax.{w128}
use Rattle.ratio_core.specs.Rational.{sign_ℚ}
use Rattle.ratio_core.proofs.fraction.Ratio.sign.Goals as goal

pub returns : goal.returns
unfolding sign_ℚ
returns c =
    let bits : to_z w128 (of_z w128 c.num.result) ≡ c.args.self.now.num =
    to_z-of_z {w = w128} (record { sfits = c.num.type_inv }) ∙ c.num.ensures.value in
    let small : to_z w8 (of_z w8 (to_z w128 (of_z w128 c.signum.result))) ≡ c.signum.result =
    omega (arith, ints, c.signum.ensures.lower_bound, c.signum.ensures.upper_bound) in
    small ∙ c.signum.ensures.value ∙ ap int_signum bits
