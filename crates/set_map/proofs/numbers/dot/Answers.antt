use Rattle.std.proofs.Common.{◌≡◌, ◌<◌, ◌∙◌, refl, arith, length}
use Rattle.std.proofs.Math.ListN.{drop_of_length-le}
use Rattle.map_laws.specs.LoopLaws.{next_item}
use Rattle.ratio_core.specs.Rational.{zero_ℚ}
use Rattle.ratio_core.specs.AnsweredLaws.{passed_on}
use Rattle.rational_laws.specs.Dot.{dot}
use Rattle.rational_laws.specs.Field.{zero-+ℚ}
use Rattle.aff_core.specs.Terms.{StepFits}
use Rattle.set_map.specs.Fitting.{DotFits}
use Rattle.set_map.proofs.Folds.{as_all-end, as_all-refused, as_all-step, dot_fold, plus_dot, plus_product}
use Rattle.set_map.proofs.numbers.dot.Goals as goal

pub returns-in_err-sum : goal.returns-in_err-sum
returns-in_err-sum c =
    let w = c.args.a.now in
    let v = c.args.b.now in
    let i = c.loop-i.i in
    let shorter : i < length v = omega (arith, c.requires, c.loop-i-test.true) in
    passed_on c.from_residual.result c.in_err-sum.field-0.0
    (StepFits c.loop-i.sum c.index-a-i.result c.index-b-i.result) (DotFits zero_ℚ w v)
    (λ q. q ≡ dot w v) _ c.from_residual.ensures.1 c.in_err-sum.ensures
    (as_all-refused plus_product StepFits plus_dot DotFits dot_fold zero_ℚ w v i c.loop-i.sum
    c.loop-i.invariant c.index-a-i.result c.index-b-i.result
    (next_item w w i c.index-a-i.result refl c.index-a-i.is c.loop-i-test.true)
    (next_item v v i c.index-b-i.result refl c.index-b-i.is shorter))

pub loop-i-preserved : goal.loop-i-preserved
loop-i-preserved c =
    let w = c.args.a.now in
    let v = c.args.b.now in
    let i = c.loop-i.i in
    let shorter : i < length v = omega (arith, c.requires, c.loop-i-test.true) in
    as_all-step plus_product StepFits plus_dot DotFits dot_fold zero_ℚ w v i c.loop-i.sum
    c.loop-i.invariant c.index-a-i.result c.index-b-i.result
    (next_item w w i c.index-a-i.result refl c.index-a-i.is c.loop-i-test.true)
    (next_item v v i c.index-b-i.result refl c.index-b-i.is shorter) c.in_ok-sum.sum
    c.in_ok-sum.ensures.0 c.in_ok-sum.ensures.1

pub returns : goal.returns
returns c =
    let w = c.args.a.now in
    let v = c.args.b.now in
    let all = as_all-end plus_product StepFits plus_dot DotFits dot_fold zero_ℚ w v c.loop-i.i
    c.loop-i.sum c.loop-i.invariant (drop_of_length-le w c.loop-i-test.false) in
    (all.0, all.1 ∙ zero-+ℚ (dot w v))
