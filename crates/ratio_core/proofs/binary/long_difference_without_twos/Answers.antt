use Rattle.std.proofs.Common.{sym, subst, ◌/◌, ◌^◌, ◌%◌, ◌+◌, ◌-◌}
use Rattle.std.specs.Int.{w128, abs_diff, trailing_zeros}
use Rattle.ratio_core.specs.Gcd.{IsOddPart}
use Rattle.ratio_core.proofs.BinaryLaws.{difference_part}
use Rattle.ratio_core.proofs.binary.long_difference_without_twos.Goals as goal

pub returns : goal.returns
returns c =
    subst (λ d. IsOddPart (abs_diff c.args.a c.args.b)
    (d / 2 ^ trailing_zeros w128 ((c.args.a + (2 ^ 128 - c.args.b)) % 2 ^ 128)))
    (sym c.abs_diff.ensures)
    (difference_part w128 c.args.a c.args.b c.ranges.a.fits c.ranges.b.fits c.requires)
