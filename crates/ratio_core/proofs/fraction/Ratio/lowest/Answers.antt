use Rattle.std.proofs.Common.{◌∙◌, ◌<◌, ◌≤◌, ◌^◌, ◌⊎◌, arith, inl, inr}
use Rattle.ratio_core.specs.Rational.{Fits, reduce, signed}
use Rattle.ratio_core.proofs.Kept.{IsMade, lowest_made, lowest_refuses}
use Rattle.ratio_core.proofs.fraction.Ratio.lowest.Goals as goal
use Rattle.ratio_core.proofs.fraction.Ratio.lowest.Goals.{After-quotient-den}
use Rattle.ratio_core.proofs.fraction.Ratio.lowest.Goals.{then-size-gt-GREATEST_PART-via-then-size-gt-GREATEST_PART, then-size-gt-GREATEST_PART-via-else-size-gt-GREATEST_PART+then-den-gt-GREATEST_PART}

pub returns-then-size-gt-GREATEST_PART-clause-exact : goal.returns-then-size-gt-GREATEST_PART-clause-exact
returns-then-size-gt-GREATEST_PART-clause-exact c =
    let past : (2 ^ 127 ≤ c.quotient-size.result) ⊎ (2 ^ 127 ≤ c.quotient-den.result) =
    elim c.then-size-gt-GREATEST_PART.branch [
      | then-size-gt-GREATEST_PART-via-then-size-gt-GREATEST_PART w ↦ inl (omega arith)
      | then-size-gt-GREATEST_PART-via-else-size-gt-GREATEST_PART+then-den-gt-GREATEST_PART w ↦ inr
          (omega arith)
    ] in
    lowest_refuses c.args.is_negative c.args.size c.args.den
    c.greatest_common_divisor-common.ensures.value c.requires c.quotient-size.ensures
    c.quotient-den.ensures past

made : (c : After-quotient-den) → c.quotient-size.result < 2 ^ 127
    → c.quotient-den.result < 2 ^ 127
    → let q = reduce (signed c.args.is_negative c.args.size) c.args.den in
    IsMade (signed c.args.is_negative c.quotient-size.result) c.quotient-den.result q (Fits q)
made c =
    lowest_made c.args.is_negative c.args.size c.args.den
    c.greatest_common_divisor-common.ensures.value c.requires c.quotient-size.ensures
    c.quotient-den.ensures

pub store-requires : goal.store-requires
store-requires c =
    (made (goal.at.store-requires c).After-quotient-den (omega arith) (omega arith)).stored

pub returns-clause-exact : goal.returns-clause-exact
returns-clause-exact c =
    let all = made (goal.at.returns-clause-exact c).After-quotient-den (omega arith)
    (omega arith) in
    (all.fits, c.store.ensures ∙ all.value)
