use Rattle.std.proofs.Common.{◌<◌, arith, refl, slice_index, subst, sym}
use Rattle.whole_rows.proofs.ClearingSteps.{left_first, left_next, left_none}
use Rattle.whole_rows.proofs.clearing.clear_columns.Goals as goal

pub loop-k-init : goal.loop-k-init
loop-k-init c = left_first c.args.columns.now c.args.numbers.now c.requires

pub loop-k-preserved : goal.loop-k-preserved
loop-k-preserved c =
    left_next c.args.columns.now c.loop-k.k c.args.numbers.now c.loop-k.numbers _ c.loop-k.invariant
    (subst (λ m. slice_index c.args.columns.now c.loop-k.k < m) (sym c.loop-k.invariant.long)
    (c.requires.within c.loop-k.k c.loop-k-test.true))
    refl

pub returns : goal.returns
returns c =
    left_none c.args.columns.now c.loop-k.k c.args.numbers.now c.loop-k.numbers c.loop-k.invariant
    (omega (arith, c.loop-k-test.false))
