use Rattle.std.proofs.Common.{ap, pos, subst, sym, to_z-of_z, ◌∙◌}
use Rattle.ratio_core.specs.Rational.{Fits, fraction}
use mir.Syntax.{w128}
use Rattle.mof_values.proofs.NumberLaws.{one_nonzero, whole_fraction_fits, whole_is}
use Rattle.mof_values.proofs.numbers.whole.Goals as goal

pub unreachable-requires : goal.unreachable-requires
unreachable-requires c =
    let seen = to_z-of_z {w = w128} c.ranges.number in
    let fits = subst (λ z. Fits (fraction z (pos 1))) (sym seen)
    (whole_fraction_fits c.args.number c.requires) in
    c.in-Err.ensures.exact (one_nonzero, fits)

pub returns : goal.returns
returns c =
    let seen = to_z-of_z {w = w128} c.ranges.number in
    whole_is c.args.number c.in-Ok.whole
    (c.in-Ok.ensures.exact.1 ∙ ap (λ z. fraction z (pos 1)) seen)
