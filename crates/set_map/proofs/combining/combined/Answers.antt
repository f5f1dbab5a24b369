use Rattle.std.proofs.Common.{◌≡◌, ◌<◌, refl, arith, length}
use Rattle.map_laws.specs.LoopLaws.{next_item}
use Rattle.ratio_core.specs.Rational.{zero_ℚ}
use Rattle.ratio_core.specs.AnsweredLaws.{passed_on}
use Rattle.aff_core.specs.Function.{constant_function}
use Rattle.set_map.specs.Combinations.{combined, combined_from}
use Rattle.set_map.specs.Fitting.{CombinationFits, MultipleAdds}
use Rattle.set_map.proofs.Folds.{as_all-end, as_all-refused, as_all-step, combined_fold, plus_multiple, weights_end}
use Rattle.set_map.proofs.combining.combined.Goals as goal

pub returns-in_err-sum : goal.returns-in_err-sum
returns-in_err-sum c =
    let w = c.args.weights.now in
    let fs = c.args.fs.now in
    let i = c.loop-i.i in
    let shorter : i < length w = omega (arith, c.requires, c.loop-i-test.true) in
    passed_on c.from_residual.result c.in_err-sum.field-0.0
    (MultipleAdds c.loop-i.sum c.index-weights-i.result c.index-fs-i.result)
    (CombinationFits (constant_function zero_ℚ) w fs) (λ f. f ≡ combined w fs) _
    c.from_residual.ensures.1 c.in_err-sum.ensures
    (as_all-refused plus_multiple MultipleAdds combined_from CombinationFits combined_fold
    (constant_function zero_ℚ) w fs i c.loop-i.sum c.loop-i.invariant c.index-weights-i.result
    c.index-fs-i.result
    (next_item w w i c.index-weights-i.result refl c.index-weights-i.is shorter)
    (next_item fs fs i c.index-fs-i.result refl c.index-fs-i.is c.loop-i-test.true))

pub loop-i-preserved : goal.loop-i-preserved
loop-i-preserved c =
    let w = c.args.weights.now in
    let fs = c.args.fs.now in
    let i = c.loop-i.i in
    let shorter : i < length w = omega (arith, c.requires, c.loop-i-test.true) in
    as_all-step plus_multiple MultipleAdds combined_from CombinationFits combined_fold
    (constant_function zero_ℚ) w fs i c.loop-i.sum c.loop-i.invariant c.index-weights-i.result
    c.index-fs-i.result
    (next_item w w i c.index-weights-i.result refl c.index-weights-i.is shorter)
    (next_item fs fs i c.index-fs-i.result refl c.index-fs-i.is c.loop-i-test.true)
    c.in_ok-sum.sum c.in_ok-sum.ensures.0 c.in_ok-sum.ensures.1

pub returns : goal.returns
returns c =
    let w = c.args.weights.now in
    let fs = c.args.fs.now in
    as_all-end plus_multiple MultipleAdds combined_from CombinationFits combined_fold
    (constant_function zero_ℚ) w fs c.loop-i.i c.loop-i.sum c.loop-i.invariant
    (weights_end w fs c.loop-i.i c.requires c.loop-i-test.false)
