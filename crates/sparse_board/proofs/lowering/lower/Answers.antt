use Rattle.std.proofs.Common.{◌≡◌, ◌+◌, ◌<◌, ℕ, List, arith, false, length, subst, sym, true, ◌∙◌}
use Rattle.std.proofs.lemmas.List.{length-map}
use Rattle.ratio_core.specs.Rational.{◌*ℚ◌, ◌-ℚ◌}
use Rattle.simplex_form.specs.Fit.{lowered_fits}
use Rattle.tableau_core.specs.LoweringLaws.{is_ok-err}
use Rattle.sparse_board.specs.declared.entry.Entry.{Entry}
use Rattle.sparse_board.specs.Sparse.{AreColumnsSplit, columns_in, values_in}
use Rattle.sparse_board.specs.Numbers.{CopiesTo, number_of, row_columns}
use Rattle.sparse_board.proofs.LoweringSteps.{lowered_all, lowered_fit, lowered_more, lowered_none, lowered_refused}
use Rattle.sparse_board.proofs.RowSteps.{column_of, value_of}
use Rattle.sparse_board.proofs.lowering.lower.Goals as goal

pub loop-k-init : goal.loop-k-init
loop-k-init c =
    lowered_none c.args.row.now c.args.by.now (columns_in c.args.units.now)
    (values_in c.args.units.now) c.requires.units.sparse c.requires.units.within c.clear.new.self
    c.clear.ensures.empty (c.clear.ensures.width ∙ c.requires.width)

within_columns : (units : List Entry) (k : ℕ) → k < length units → k < length (columns_in units)
within_columns units k b = subst (λ n. k < n) (sym (length-map units (λ (x : Entry). x.column))) b

pub returns-in_err-i-clause-fits : goal.returns-in_err-i-clause-fits
returns-in_err-i-clause-fits c =
    let units = c.args.units.now in
    let b = c.loop-k-test.true in
    let unit = c.index-units-k.result in
    is_ok-err c.from_residual.result c.from_residual.ensures.0
    ∙ sym (lowered_refused c.args.row.now c.args.by.now (columns_in units) (values_in units)
    c.requires.units.sparse c.requires.units.within c.loop-k.next c.loop-k.k c.loop-k.i
    c.loop-k.invariant (within_columns units c.loop-k.k b) unit.value
    (value_of units c.loop-k.k unit b c.index-units-k.is)
    (subst (λ x. lowered_fits (number_of c.args.row.now x) c.args.by.now unit.value ≡ false)
    (column_of units c.loop-k.k unit b c.index-units-k.is) (sym c.in_err-i.ensures.fits)))

pub loop-k-preserved : goal.loop-k-preserved
loop-k-preserved c =
    let units = c.args.units.now in
    let b = c.loop-k-test.true in
    let unit = c.index-units-k.result in
    let row = c.args.row.now in
    let at = column_of units c.loop-k.k unit b c.index-units-k.is in
    lowered_more row c.args.by.now (columns_in units) (values_in units) c.requires.units.sparse
    c.requires.units.within c.loop-k.next c.loop-k.k c.loop-k.i c.loop-k.invariant
    (within_columns units c.loop-k.k b) unit.value
    (value_of units c.loop-k.k unit b c.index-units-k.is) c.lower_at.new.next c.in_ok-i.i
    c.in_ok-i.ensures.width
    (subst (λ x. lowered_fits (number_of row x) c.args.by.now unit.value ≡ true) at
    (sym c.in_ok-i.ensures.fits))
    (subst (λ x. AreColumnsSplit (x + 1) c.in_ok-i.i (row_columns row)) at c.in_ok-i.ensures.split)
    (subst (λ x. CopiesTo row c.loop-k.i x (number_of row x -ℚ c.args.by.now *ℚ unit.value)
    c.loop-k.next c.lower_at.new.next) at c.in_ok-i.ensures.copied)

all_units : (units : List Entry) (k : ℕ) → k ≡ length units → k ≡ length (columns_in units)
all_units units k e = e ∙ sym (length-map units (λ (x : Entry). x.column))

pub returns-clause-fits : goal.returns-clause-fits
returns-clause-fits c =
    sym (lowered_fit c.args.row.now c.args.by.now (columns_in c.args.units.now)
    (values_in c.args.units.now) c.requires.units.sparse c.requires.units.within c.loop-k.next
    c.loop-k.k c.loop-k.i c.loop-k.invariant (all_units c.args.units.now c.loop-k.k
    (omega (arith, c.loop-k.auto.k-end, c.loop-k-test.false))))

pub returns-clause-ok : goal.returns-clause-ok
returns-clause-ok c =
    lowered_all c.args.row.now c.args.by.now (columns_in c.args.units.now)
    (values_in c.args.units.now) c.requires.units.sparse c.requires.units.within c.loop-k.next
    c.loop-k.k c.loop-k.i c.loop-k.invariant (all_units c.args.units.now c.loop-k.k
    (omega (arith, c.loop-k.auto.k-end, c.loop-k-test.false))) _ c.copy_below.new.next
    (omega (arith, c.requires.few)) c.copy_below.ensures.width c.copy_below.ensures.copied
