use Rattle.std.proofs.Common.{◌<◌, arith, subst, sym, ◌∙◌}
use Rattle.ratio_core.specs.Rational.{◌/ℚ◌}
use Rattle.sparse_board.specs.Mixed.{width_of}
use Rattle.sparse_board.proofs.MixedSteps.{number_narrow, number_wide, quotients_narrow, quotients_wide}
use Rattle.sparse_board.proofs.RowSteps.{on_ok_then}
use Rattle.sparse_board.proofs.TestSteps.{test_same}
use Rattle.sparse_board.proofs.step.Step.set.Goals as goal

pub set_wide-requires-clause-width : goal.set_wide-requires-clause-width
set_wide-requires-clause-width c = c.args.row.now.full c.if-row.true ∙ c.requires.width

pub set_wide-requires-clause-nonzero : goal.set_wide-requires-clause-nonzero
set_wide-requires-clause-nonzero c = λ e.
    c.requires.nonzero (number_wide c.args.row.now c.if-row.true c.args.q ∙ e)

pub returns-then-row-clause-fits : goal.returns-then-row-clause-fits
returns-then-row-clause-fits c =
    test_same c.set_wide.result _ _ (quotients_wide c.args.q c.args.row.now c.if-row.true)
    c.set_wide.ensures.fits

pub returns-then-row-clause-ok : goal.returns-then-row-clause-ok
returns-then-row-clause-ok c =
    let row = c.args.row.now in
    on_ok_then c.set_wide.result _ _
    (λ h j b. h j (subst (λ n. j < n) (sym (row.full c.if-row.true)) b)
    ∙ (λ i. sym (number_wide row c.if-row.true j) i /ℚ sym (number_wide row c.if-row.true c.args.q) i))
    c.set_wide.ensures.ok

pub set_narrow-requires-clause-nonzero : goal.set_narrow-requires-clause-nonzero
set_narrow-requires-clause-nonzero c = λ e.
    c.requires.nonzero (number_narrow c.args.row.now c.if-row.false c.args.q ∙ e)

pub returns-then-not-asked-clause-fits : goal.returns-then-not-asked-clause-fits
returns-then-not-asked-clause-fits c =
    let row = c.args.row.now in
    let within : c.args.q < width_of row = omega (arith, c.requires.column, c.requires.width) in
    quotients_narrow c.args.q row c.if-row.false within c.requires.nonzero

pub returns-then-not-asked-clause-ok : goal.returns-then-not-asked-clause-ok
returns-then-not-asked-clause-ok c = λ j b.
    let row = c.args.row.now in
    c.set_narrow.ensures.numbers j (subst (λ n. j < n) c.requires.width b)
    ∙ (λ i. sym (number_narrow row c.if-row.false j) i
    /ℚ sym (number_narrow row c.if-row.false c.args.q) i)

pub returns-clause-fits : goal.returns-clause-fits
returns-clause-fits c =
    let row = c.args.row.now in
    let within : c.args.q < width_of row = omega (arith, c.requires.column, c.requires.width) in
    quotients_narrow c.args.q row c.if-row.false within c.requires.nonzero

pub returns-clause-ok : goal.returns-clause-ok
returns-clause-ok c = λ j b.
    let row = c.args.row.now in
    c.spread.ensures.units j
    ∙ c.set_narrow.ensures.numbers j (subst (λ n. j < n) c.requires.width b)
    ∙ (λ i. sym (number_narrow row c.if-row.false j) i
    /ℚ sym (number_narrow row c.if-row.false c.args.q) i)
