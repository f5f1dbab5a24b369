use Rattle.std.proofs.Common.{arith, not, sym, ◌∙◌}
use Rattle.ratio_core.specs.Rational.{rational_eq, zero_ℚ}
use Rattle.model_refusals.proofs.ZeroTests.{counted_more}
use Rattle.model_refusals.proofs.counted.nonzero_terms.Goals.{then-is_counted, else-is_counted}
use Rattle.model_refusals.proofs.counted.nonzero_terms.Goals as goal

pub loop-term-preserved : goal.loop-term-preserved
loop-term-preserved c =
    elim c.if-is_counted.branch [
      | then-is_counted w ↦
          let more = counted_more (λ t. not (rational_eq t.coefficient zero_ℚ)) c.args.terms.now
          c.loop-term.term-index c.term-item.result (omega arith) c.term-item.is
          c.loop-term.count c.loop-term.invariant.counted _ (sym c.is_counted.ensures
          ∙ w.if-is_counted.true) in
          record { counted = w.count-is ∙ more; few = omega arith }
      | else-is_counted w ↦
          let more = counted_more (λ t. not (rational_eq t.coefficient zero_ℚ)) c.args.terms.now
          c.loop-term.term-index c.term-item.result (omega arith) c.term-item.is
          c.loop-term.count c.loop-term.invariant.counted _ (sym c.is_counted.ensures
          ∙ w.if-is_counted.false) in
          record { counted = omega arith; few = omega arith }
    ]
