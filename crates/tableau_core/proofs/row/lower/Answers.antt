use Rattle.std.specs.Prelude.{slice_index}
use Rattle.std.proofs.Common.{ap₂, arith, subst, sym, ◌∙◌, ◌+◌}
use Rattle.ratio_core.specs.Rational.{◌*ℚ◌, ◌-ℚ◌}
use Rattle.simplex_form.specs.Fit.{lowered_fits}
use Rattle.tableau_core.specs.LoweringLaws.{is_ok-err}
use Rattle.tableau_core.specs.ItemLaws.{item_is}
use Rattle.tableau_core.proofs.RowSteps.{IsLoweredAt, lowered_beside, lowered_fit, lowered_here, lowered_none, lowered_past, lowered_refused}
use Rattle.tableau_core.proofs.row.lower.Goals as goal
use Rattle.tableau_core.proofs.row.lower.Goals.{then-j-row+in_ok-next, else-j-row}

pub loop-i-init : goal.loop-i-init
loop-i-init c =
    lowered_none c.args.by.now c.args.step.now c.args.row.now c.args.places.now c.args.next.now
    c.requires.long c.requires.next_fits

pub loop-i-preserved : goal.loop-i-preserved
loop-i-preserved c =
    let place = slice_index c.args.places.now c.loop-i.i in
    elim c.if-j-row.branch [
      | then-j-row+in_ok-next w ↦
          let number = item_is c.args.row.now place w.index-row-j.result w.if-j-row.true
          w.index-row-j.is in
          let unit = item_is c.args.step.now place w.index-step-j.result
          (omega (arith, w.if-j-row.true, c.requires.step_long)) w.index-step-j.is in
          subst (λ next. IsLoweredAt c.args.by.now c.args.step.now c.args.row.now c.args.places.now
          c.args.next.now next (c.loop-i.i + 1)) (sym w.next-is)
          (lowered_here c.args.by.now c.args.step.now c.args.row.now c.args.places.now
          c.args.next.now c.loop-i.next c.loop-i.i c.loop-i.invariant w.in_ok-next.field-0
          w.if-j-row.true (ap₂ (λ x y. lowered_fits x c.args.by.now y) (sym number) (sym unit)
          ∙ sym w.in_ok-next.ensures.fits) (w.in_ok-next.ensures.ok.0
          ∙ (λ i. number i -ℚ c.args.by.now *ℚ unit i)) w.in_ok-next.ensures.ok.1)
      | else-j-row w ↦
          subst (λ next. IsLoweredAt c.args.by.now c.args.step.now c.args.row.now c.args.places.now
          c.args.next.now next (c.loop-i.i + 1)) (sym w.next-is)
          (lowered_past c.args.by.now c.args.step.now c.args.row.now c.args.places.now
          c.args.next.now c.loop-i.next c.loop-i.i c.loop-i.invariant
          (omega (arith, w.if-j-row.false)))
    ]

pub returns-in_err-next-clause-fits : goal.returns-in_err-next-clause-fits
returns-in_err-next-clause-fits c =
    let place = slice_index c.args.places.now c.loop-i.i in
    let number = item_is c.args.row.now place c.index-row-j.result c.if-j-row.true
    c.index-row-j.is in
    let unit = item_is c.args.step.now place c.index-step-j.result
    (omega (arith, c.if-j-row.true, c.requires.step_long)) c.index-step-j.is in
    is_ok-err c.from_residual.result c.from_residual.ensures.0
    ∙ sym (lowered_refused c.args.by.now c.args.step.now c.args.row.now c.args.places.now
    c.args.next.now c.loop-i.next c.loop-i.i c.loop-i.invariant c.if-j-row.true
    (ap₂ (λ x y. lowered_fits x c.args.by.now y) (sym number) (sym unit)
    ∙ sym c.in_err-next.ensures.fits))

pub returns-clause-fits : goal.returns-clause-fits
returns-clause-fits c =
    sym (lowered_fit c.args.by.now c.args.step.now c.args.row.now c.args.places.now c.args.next.now
    c.loop-i.next c.loop-i.i c.loop-i.invariant (omega (
      arith,
      c.loop-i.auto.i-end,
      c.loop-i-test.false,
    )) c.requires.covers c.requires.step_long c.requires.row_fits)

pub returns-clause-ok : goal.returns-clause-ok
returns-clause-ok c =
    lowered_beside c.args.by.now c.args.step.now c.args.row.now c.args.places.now c.args.next.now
    c.loop-i.next c.loop-i.i c.loop-i.invariant (omega (
      arith,
      c.loop-i.auto.i-end,
      c.loop-i-test.false,
    )) c.requires.covers c.requires.step_long c.requires.row_fits
