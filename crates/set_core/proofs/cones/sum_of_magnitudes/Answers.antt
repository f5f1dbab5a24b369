use Rattle.std.proofs.Common.{drop, sym, ap, subst, ◌∙◌, ◌+◌}
use Rattle.std.proofs.Math.ListN.{drop_of_length-le}
use Rattle.ratio_core.specs.Rational.{zero_ℚ, ◌+ℚ◌, SumFits}
use Rattle.set_core.proofs.Magnitudes.{IsAsAll, as_all-step, as_all-fits, as_all-end, next_number}
use Rattle.set_core.proofs.cones.sum_of_magnitudes.Goals as goal

pub returns-in-Err : goal.returns-in-Err
returns-in-Err c =
    let next = next_number c.args.v.now c.loop-q.q-index c.q-item.result c.q-item.is
    c.loop-q-test.true in
    λ h. c.in-Err.ensures.exact (subst (SumFits c.loop-q.sum) (sym c.abs.ensures)
    (as_all-fits zero_ℚ c.loop-q.sum c.args.v.now _ _ c.q-item.result
    c.loop-q.invariant next h))

pub loop-q-preserved : goal.loop-q-preserved
loop-q-preserved c =
    let next = next_number c.args.v.now c.loop-q.q-index c.q-item.result c.q-item.is
    c.loop-q-test.true in
    subst (λ s. IsAsAll zero_ℚ s c.args.v.now (drop (c.loop-q.q-index + 1) c.args.v.now))
    (sym (c.in-Ok.ensures.exact.1 ∙ ap (λ q. c.loop-q.sum +ℚ q) c.abs.ensures))
    (as_all-step zero_ℚ c.loop-q.sum c.args.v.now _ _ c.q-item.result c.loop-q.invariant next
    (subst (SumFits c.loop-q.sum) c.abs.ensures c.in-Ok.ensures.exact.0))

pub returns : goal.returns
returns c =
    as_all-end zero_ℚ c.loop-q.sum c.args.v.now (subst (IsAsAll zero_ℚ c.loop-q.sum c.args.v.now)
    (drop_of_length-le c.args.v.now c.loop-q-test.false) c.loop-q.invariant)
