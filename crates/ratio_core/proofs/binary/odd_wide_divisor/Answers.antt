use Rattle.std.proofs.Common.{◌∙◌, ap, arith}
use Rattle.ratio_core.specs.Gcd.{gcd}
use Rattle.ratio_core.proofs.BinaryLaws.{gcd-step, gcd_itself}
use Rattle.ratio_core.proofs.binary.odd_wide_divisor.Goals as goal

pub loop-x-preserved : goal.loop-x-preserved
loop-x-preserved c = record {
  left = omega arith;
  right = c.wide_difference_without_twos-rest.ensures.is_odd;
  same =
      ap (λ x. gcd x c.wide_difference_without_twos-rest.result) c.lesser_wide-x.ensures
      ∙ gcd-step c.loop-x.x c.loop-x.y _ c.loop-x.invariant.left c.loop-x.invariant.right
      c.wide_difference_without_twos-rest.ensures
      ∙ c.loop-x.invariant.same;
}

pub returns-then-x-y : goal.returns-then-x-y
returns-then-x-y c = gcd_itself c.loop-x.x c.loop-x.y c.if-x-y.true ∙ c.loop-x.invariant.same
