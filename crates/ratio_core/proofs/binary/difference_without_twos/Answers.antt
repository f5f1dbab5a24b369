use Rattle.std.proofs.Common.{◌≡◌, sym, subst, arith, ◌∙◌, ◌/◌, ◌^◌, ◌%◌, ◌+◌, ◌-◌}
use Rattle.std.specs.Int.{w64, abs_diff, trailing_zeros}
use Rattle.ratio_core.specs.Gcd.{IsOddPart}
use Rattle.ratio_core.proofs.BinaryLaws.{difference_part}
use Rattle.ratio_core.proofs.binary.difference_without_twos.Goals as goal

pub returns : goal.returns
returns c =
    let turned : abs_diff c.args.b c.args.a ≡ abs_diff c.args.a c.args.b = omega arith in
    subst (λ d. IsOddPart d (c.abs_diff.result / 2 ^ trailing_zeros w64
    ((c.args.b + (2 ^ 64 - c.args.a)) % 2 ^ 64))) turned
    (subst (λ d. IsOddPart (abs_diff c.args.b c.args.a)
    (d / 2 ^ trailing_zeros w64 ((c.args.b + (2 ^ 64 - c.args.a)) % 2 ^ 64))) (turned
    ∙ sym c.abs_diff.ensures)
    (difference_part w64 c.args.b c.args.a c.ranges.b.fits c.ranges.a.fits
    (λ e. c.requires (sym e))))
