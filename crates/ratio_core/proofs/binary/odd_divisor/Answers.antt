use Rattle.std.proofs.Common.{◌∙◌, ap, arith, inl}
use Rattle.ratio_core.specs.Gcd.{gcd}
use Rattle.ratio_core.proofs.BinaryLaws.{gcd-step, gcd_itself, one_is_gcd}
use Rattle.ratio_core.proofs.binary.odd_divisor.Goals as goal

pub loop-x-preserved : goal.loop-x-preserved
loop-x-preserved c = record {
  left = omega arith;
  right = c.difference_without_twos-rest.ensures.is_odd;
  same = ap (λ x. gcd x c.difference_without_twos-rest.result) c.lesser-x.ensures
      ∙ gcd-step c.loop-x.x c.loop-x.y _ c.loop-x.invariant.left c.loop-x.invariant.right
      c.difference_without_twos-rest.ensures
      ∙ c.loop-x.invariant.same;
}

pub returns-then-x-eq1 : goal.returns-then-x-eq1
returns-then-x-eq1 c =
    one_is_gcd c.loop-x.x c.loop-x.y (inl c.if-x-eq1.true) ∙ c.loop-x.invariant.same

pub returns : goal.returns
returns c = gcd_itself c.loop-x.x c.loop-x.y c.loop-x-test.false ∙ c.loop-x.invariant.same
