use Rattle.std.proofs.Common.{ap, length, subst, sym, ◌∙◌, ◌+◌}
use Rattle.std.proofs.lemmas.List.{with_items_is}
use Rattle.std.proofs.lemmas.Result.{IfOk-weaker}
use Rattle.tableau_core.specs.Row.{AllFit, cell}
use Rattle.tableau_core.proofs.StartSteps.{started}
use Rattle.tableau_core.proofs.start.start_row.Goals as goal

pub fill_row-requires-clause-long : goal.fill_row-requires-clause-long
fill_row-requires-clause-long c = ap length c.deref_mut.ensures.value ∙ c.in_ok-numbers.ensures.long

pub fill_row-requires-clause-zeros : goal.fill_row-requires-clause-zeros
fill_row-requires-clause-zeros c = λ j.
    ap (λ l. cell l j) c.deref_mut.ensures.value ∙ c.in_ok-numbers.ensures.zeros j

pub fill_row-requires-clause-all_fit : goal.fill_row-requires-clause-all_fit
fill_row-requires-clause-all_fit c =
    subst AllFit (sym c.deref_mut.ensures.value) c.in_ok-numbers.ensures.all_fit

pub new-requires : goal.new-requires
new-requires c =
    subst AllFit (sym (with_items_is c.in_ok-numbers.numbers c.fill_row.new.numbers
    (c.fill_row.auto.numbers ∙ c.deref_mut.ensures.len))) c.fill_row.ensures.all_fit

pub returns-clause-long : goal.returns-clause-long
returns-clause-long c =
    IfOk-weaker c.new.result _ _ (λ row e. ap length (e ∙ with_items_is c.in_ok-numbers.numbers
    c.fill_row.new.numbers (c.fill_row.auto.numbers ∙ c.deref_mut.ensures.len))
    ∙ c.fill_row.ensures.long) c.new.ensures

pub returns-clause-entries : goal.returns-clause-entries
returns-clause-entries c =
    IfOk-weaker c.new.result _ _ (λ row e right costs j b.
    ap (λ l. cell l j) (e ∙ with_items_is c.in_ok-numbers.numbers c.fill_row.new.numbers
    (c.fill_row.auto.numbers ∙ c.deref_mut.ensures.len))
    ∙ started c.args.m c.args.c c.args.matrix.now c.args.i c.requires.within
    c.fill_row.new.numbers
    (λ k d. c.fill_row.ensures.reals k d ∙ c.row_terms-terms.ensures.numbers k d)
    c.fill_row.ensures.unit c.fill_row.ensures.others right costs j b) c.new.ensures

pub returns-clause-side : goal.returns-clause-side
returns-clause-side c =
    IfOk-weaker c.new.result _ _ (λ row e. ap (λ l. cell l (c.args.c + c.args.m))
    (e ∙ with_items_is c.in_ok-numbers.numbers c.fill_row.new.numbers
    (c.fill_row.auto.numbers ∙ c.deref_mut.ensures.len)) ∙ c.fill_row.ensures.side) c.new.ensures
