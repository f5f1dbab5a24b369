use Rattle.std.proofs.Common.{ap, sym, subst, arith, ◌≡◌, ◌+◌, ◌*◌, ◌∙◌}
use Rattle.ratio_core.specs.Rational.{sum_fits, ◌+ℚ◌}
use Rattle.sparse_ratios.specs.Terms.{number_at}
use Rattle.tableau_core.specs.Row.{cell}
use Rattle.tableau_core.specs.TermSteps.{changed_same}
use Rattle.std.proofs.lemmas.List.{with_items_is}
use Rattle.simplex_form.specs.Basis.{start}
use Rattle.simplex_form.specs.Board.{price}
use Rattle.simplex_form.specs.Form.{Form, first_cost}
use Rattle.tableau_core.specs.Start.{IsListOf, form_of}
use Rattle.tableau_core.proofs.StartSteps.{AreSummed, prices-fit, prices-listed, summed-refused, summed-row}
use Rattle.tableau_core.proofs.start.first_prices.Goals as goal

pub returns-in_err-add_row-clause-overflow : goal.returns-in_err-add_row-clause-overflow
returns-in_err-add_row-clause-overflow c = λ _ right costs.
    let refused = c.in_err-add_row.ensures.refused in
    summed-refused c.args.m c.args.c c.args.matrix.now c.loop-i.i c.deref_mut.result.now
    (subst (AreSummed c.args.m c.args.c c.args.matrix.now c.loop-i.i)
    (sym c.deref_mut.ensures.value) c.loop-i.invariant)
    c.loop-i-test.true right costs refused.0 refused.1
    (ap (sum_fits (cell c.deref_mut.result.now refused.0))
    (sym (c.row_terms-terms.ensures.numbers refused.0 refused.1)) ∙ refused.2)

pub loop-i-preserved : goal.loop-i-preserved
loop-i-preserved c =
    let next = with_items_is c.loop-i.prices c.add_row.new.sums (c.add_row.auto.sums
    ∙ c.deref_mut.ensures.len) in
    subst (AreSummed c.args.m c.args.c c.args.matrix.now (c.loop-i.i + 1)) (sym next)
    (summed-row c.args.m c.args.c c.args.matrix.now c.loop-i.i c.deref_mut.result.now
    (subst (AreSummed c.args.m c.args.c c.args.matrix.now c.loop-i.i)
    (sym c.deref_mut.ensures.value) c.loop-i.invariant)
    c.loop-i-test.true c.add_row.new.sums
    (changed_same (λ j x. x +ℚ number_at c.row_terms-terms.result.now (c.loop-i.i * c.args.c + j))
    (λ j x. x +ℚ cell c.args.matrix.now (c.loop-i.i * c.args.c + j)) c.args.c
    c.deref_mut.result.now c.add_row.new.sums
    (λ j x b. ap (λ q. x +ℚ q) (c.row_terms-terms.ensures.numbers j b))
    c.in_ok-add_row.ensures.added)
    (λ j b. ap (sum_fits (cell c.deref_mut.result.now j))
    (sym (c.row_terms-terms.ensures.numbers j b)) ∙ c.in_ok-add_row.ensures.fits j b)
    c.add_row.ensures.all_fit)

pub returns-clause-prices : goal.returns-clause-prices
returns-clause-prices c = λ right costs.
    let F : Form = form_of c.args.m c.args.c c.args.matrix.now right costs in
    let all : c.loop-i.i ≡ c.args.m = omega (arith, c.loop-i.auto.i-end, c.loop-i-test.false) in
    subst (IsListOf (c.args.c + c.args.m) (price F (start F) (first_cost F)))
    (sym (with_items_is c.loop-i.prices c.negate.new.numbers (c.negate.auto.numbers
    ∙ c.deref_mut-2.ensures.len)))
    (prices-listed c.args.m c.args.c c.args.matrix.now c.loop-i.i c.deref_mut-2.result.now
    (subst (AreSummed c.args.m c.args.c c.args.matrix.now c.loop-i.i)
    (sym c.deref_mut-2.ensures.value) c.loop-i.invariant)
    all right costs c.negate.new.numbers c.negate.ensures.negated)

pub returns-clause-fits : goal.returns-clause-fits
returns-clause-fits c = λ right costs.
    let all : c.loop-i.i ≡ c.args.m = omega (arith, c.loop-i.auto.i-end, c.loop-i-test.false) in
    prices-fit c.args.m c.args.c c.args.matrix.now c.loop-i.i c.loop-i.prices.items
    c.loop-i.invariant all right costs
