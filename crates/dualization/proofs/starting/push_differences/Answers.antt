use Rattle.std.specs.Prelude.{◌≡◌, ◌++◌, length}
use Rattle.std.proofs.Common.{arith}
use Rattle.std.specs.Prelude.{refl}
use Rattle.ratio_core.specs.AnsweredLaws.{overflowed}
use Rattle.rational_laws.specs.Dot.{minus}
use Rattle.dualization.specs.Fitting.{EachDifferenceFits}
use Rattle.dualization.proofs.PlaceLemmas.{difference_made, difference_unfit, differences_all, differences_none, reached}
use Rattle.dualization.proofs.starting.push_differences.Goals as goal

pub loop-i-init : goal.loop-i-init
loop-i-init c = differences_none c.args.first.now c.args.second.now c.args.parts.now.items

pub loop-i-preserved : goal.loop-i-preserved
loop-i-preserved c =
    difference_made c.args.first.now c.args.second.now c.loop-i.i c.args.parts.now.items
    c.loop-i.parts.items c.index-first-i.result c.index-second-i.result (omega arith)
    (omega arith) c.index-first-i.is c.index-second-i.is c.loop-i.invariant
    c.in_ok-difference.difference c.push.new.self.items c.in_ok-difference.ensures.exact.0
    c.in_ok-difference.ensures.exact.1 c.in_ok-push.ensures.items

pub returns-in_err-difference : goal.returns-in_err-difference
returns-in_err-difference c =
    overflowed c.from_residual.result _ (EachDifferenceFits c.args.first.now c.args.second.now)
    (λ _. c.loop-i.parts.items ≡ c.args.parts.now.items ++ minus c.args.first.now c.args.second.now)
    c.from_residual.ensures.1 refl
    (difference_unfit c.args.first.now c.args.second.now c.loop-i.i c.args.parts.now.items
    c.loop-i.parts.items c.index-first-i.result c.index-second-i.result (omega arith) (omega arith)
    c.index-first-i.is c.index-second-i.is c.loop-i.invariant c.in_err-difference.ensures.exact)

pub returns : goal.returns
returns c =
    differences_all c.args.first.now c.args.second.now c.loop-i.i c.args.parts.now.items
    c.loop-i.parts.items
    (reached (length c.args.first.now) (length c.args.second.now) c.common_count-count.result
    c.loop-i.i c.loop-i-test.false c.common_count-count.ensures.all) c.loop-i.invariant
