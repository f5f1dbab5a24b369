use Rattle.std.proofs.Common.{ap, subst, ◌∙◌}
use Rattle.ratio_core.specs.Rational.{zero_ℚ}
use Rattle.aff_core.specs.Function.{constant_function}
use Rattle.set_map.specs.Combinations.{combined}
use Rattle.set_map.specs.Fitting.{CombinationFits}
use Rattle.set_map.proofs.Made.{made_more}
use Rattle.set_map.proofs.combining.mapped.Goals as goal

pub loop-row-preserved : goal.loop-row-preserved
loop-row-preserved c =
    let fs = c.args.fs.now in
    made_more (λ row. CombinationFits (constant_function zero_ℚ) row fs) (λ row. combined row fs)
    c.args.rows.now c.loop-row.row-index c.loop-row.combinations.items c.push.new.self.items
    c.row-item.result c.in_ok-combined.field-0 c.loop-row.invariant c.row-item.is
    c.loop-row-test.true
    (subst (λ row. CombinationFits (constant_function zero_ℚ) row fs) c.as_slice.ensures
    c.in_ok-combined.ensures.0)
    (c.in_ok-combined.ensures.1 ∙ ap (λ row. combined row fs) c.as_slice.ensures)
    c.in_ok-push.ensures.items
