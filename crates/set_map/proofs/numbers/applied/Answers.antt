use Rattle.std.proofs.Common.{ap, subst, ◌∙◌}
use Rattle.ratio_core.specs.Rational.{zero_ℚ}
use Rattle.rational_laws.specs.Dot.{dot}
use Rattle.set_map.specs.Fitting.{DotFits}
use Rattle.set_map.proofs.Made.{made_more}
use Rattle.set_map.proofs.numbers.applied.Goals as goal

pub loop-row-preserved : goal.loop-row-preserved
loop-row-preserved c =
    let v = c.args.numbers.now in
    made_more (λ row. DotFits zero_ℚ row v) (λ row. dot row v) c.args.rows.now
    c.loop-row.row-index c.loop-row.products.items c.push.new.self.items c.row-item.result
    c.in_ok-dot.field-0 c.loop-row.invariant c.row-item.is c.loop-row-test.true
    (subst (λ row. DotFits zero_ℚ row v) c.as_slice.ensures c.in_ok-dot.ensures.0)
    (c.in_ok-dot.ensures.1 ∙ ap (λ row. dot row v) c.as_slice.ensures) c.in_ok-push.ensures.items
