use Rattle.std.proofs.Common.{sym, subst, ◌/◌, ◌^◌, ◌%◌, ◌+◌, ◌-◌}
use Rattle.std.specs.Int.{w64, abs_diff, trailing_zeros}
use Rattle.ratio_core.specs.Gcd.{IsOddPart}
use Rattle.ratio_core.proofs.BinaryLaws.{difference_part_by_halves}
use Rattle.ratio_core.proofs.binary.wide_difference_without_twos.Goals as goal

pub returns : goal.returns
returns c =
    subst (λ d. IsOddPart (abs_diff c.args.a c.args.b)
    (d / 2 ^ trailing_zeros w64 ((c.low_half.result + (2 ^ 64 - c.low_half-2.result)) % 2
    ^ 64))) (sym c.abs_diff.ensures)
    (difference_part_by_halves c.args.a c.args.b c.low_half.result c.low_half-2.result
    c.ranges.a.fits c.ranges.b.fits c.low_half.ensures c.low_half-2.ensures c.if-low-eq0.false)
