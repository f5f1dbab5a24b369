use Rattle.std.proofs.Common.{sym, true≢false, ◌∙◌}
use Rattle.set_map.proofs.MatrixSteps.{unit_failed, unit_more}
use Rattle.set_map.proofs.units.is_unit.Goals as goal

pub returns-then-not-is_unit_row : goal.returns-then-not-is_unit_row
returns-then-not-is_unit_row c = (
  λ t. absurd (true≢false (sym t)),
  λ same. absurd (unit_failed c.args.rows.now c.loop-i.i c.index-rows-i.result c.index-rows-i.is
      c.loop-i-test.true
      (λ e. true≢false (sym (c.is_unit_row.ensures.1 (c.as_slice.ensures ∙ e))
      ∙ c.if-not-is_unit_row.true)) same),
)

pub loop-i-preserved : goal.loop-i-preserved
loop-i-preserved c =
    unit_more c.args.rows.now c.loop-i.i c.index-rows-i.result c.index-rows-i.is
    c.loop-i-test.true c.loop-i.invariant
    (sym c.as_slice.ensures ∙ c.is_unit_row.ensures.0 c.if-not-is_unit_row.false)
