use Rattle.std.proofs.Common.{◌≡◌, Err, ap, false, subst, true}
use Rattle.simplex_form.specs.Basis.{start}
use Rattle.simplex_form.specs.Fit.{start_fits}
use Rattle.simplex_laws.specs.OutcomeLaws.{outcome_is}
use Rattle.tableau_core.specs.BoardContents.{IsBoardOf}
use Rattle.tableau_core.specs.Start.{form_of}
use Rattle.simplex_core.specs.StdForm.{equality_form}
use Rattle.simplex_core.proofs.Right.{standard_form, tells_all, tells_right, tells_start}
use Rattle.simplex_core.proofs.simplex.solve_on.Goals as goal

pub returns-in-Ok-clause-outcome : goal.returns-in-Ok-clause-outcome
returns-in-Ok-clause-outcome g c =
    let form = c.args.form.now in
    let same : form_of form.m form.c form.matrix c.as_slice-right.result.now
    c.as_slice-costs.result.now ≡ equality_form form = λ i. form_of form.m form.c
    form.matrix (c.as_slice-right.ensures i) (c.as_slice-costs.ensures i) in
    tells_all (equality_form form) c.args.pivots c.run.result
    (subst (λ F. start_fits F ≡ true) same c.in-Ok.ensures.fits)
    (c.run.ensures (equality_form form) (standard_form form c.requires)
    (subst (λ F. IsBoardOf F (start F) (g.T.Tableau.contents c.in-Ok.board)) same
    c.in-Ok.ensures.board))

pub returns-in-Ok-clause-meaning : goal.returns-in-Ok-clause-meaning
returns-in-Ok-clause-meaning g c = outcome_is (equality_form c.args.form.now) c.args.pivots

pub returns-in-Ok-clause-right : goal.returns-in-Ok-clause-right
returns-in-Ok-clause-right g c =
    let form = c.args.form.now in
    tells_right (equality_form form) (standard_form form c.requires) c.args.pivots c.run.result
    (returns-in-Ok-clause-outcome g c)

pub returns-in_ok-basis-in-Err-Overflow-clause-outcome : goal.returns-in_ok-basis-in-Err-Overflow-clause-outcome
returns-in_ok-basis-in-Err-Overflow-clause-outcome g c =
    let form = c.args.form.now in
    let same : form_of form.m form.c form.matrix c.as_slice-right.result.now
    c.as_slice-costs.result.now ≡ equality_form form = λ i. form_of form.m form.c
    form.matrix (c.as_slice-right.ensures i) (c.as_slice-costs.ensures i) in
    tells_start (equality_form form) c.args.pivots c.in_ok-basis-in-Err-Overflow.basis
    (subst (λ F. start_fits F ≡ false) same (c.in-Err-Overflow.ensures.overflow
    (ap Err c.in-Err-Overflow.field-0-is))) c.in_ok-basis-in-Err-Overflow.ensures

pub returns-in-Err-Memory-clause-meaning : goal.returns-in-Err-Memory-clause-meaning
returns-in-Err-Memory-clause-meaning g c = outcome_is (equality_form c.args.form.now) c.args.pivots
