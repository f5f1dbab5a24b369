use Rattle.std.specs.Int.{w128}
use Rattle.std.proofs.Common.{◌<◌, subst, sym}
use Rattle.ratio_core.specs.Gcd.{gcd_pos}
use Rattle.ratio_core.proofs.BinaryLaws.{odd_part_of, twice_divisor}
use Rattle.ratio_core.proofs.binary.wide_divisor.Goals as goal

pub odd_wide_divisor-requires-clause-left : goal.odd_wide_divisor-requires-clause-left
odd_wide_divisor-requires-clause-left c =
    (odd_part_of w128 c.args.a c.requires.left c.ranges.a.fits).is_odd

pub odd_wide_divisor-requires-clause-right : goal.odd_wide_divisor-requires-clause-right
odd_wide_divisor-requires-clause-right c =
    (odd_part_of w128 c.args.b c.requires.right c.ranges.b.fits).is_odd

pub returns-clause-value : goal.returns-clause-value
returns-clause-value c =
    twice_divisor w128 c.args.a c.args.b c.odd_wide_divisor.result c.lesser_count.result
    c.requires.left c.requires.right c.ranges.a.fits c.ranges.b.fits c.odd_wide_divisor.ensures
    c.lesser_count.ensures

pub returns-clause-positive : goal.returns-clause-positive
returns-clause-positive c =
    subst (λ x. 0 < x) (sym (returns-clause-value c)) (gcd_pos c.args.a c.args.b c.requires.right)
