use Rattle.std.proofs.Common.{◌∙◌, ap, rules, slice_index_or}
use Rattle.std.specs.Ordering.{nat_cmp}
use Rattle.std.proofs.lemmas.Fn.{always_returns_same}
use Rattle.std_form.proofs.Coefficients.{coefficient_absent, coefficient_found}
use Rattle.std_form.proofs.equation.coefficient_of.Goals as goal

pub returns-in-Ok : goal.returns-in-Ok
returns-in-Ok c =
    let found = c.in-Ok.ensures.position (λ t. nat_cmp t.0 c.args.i)
    (always_returns_same _ _ _ (λ a r f called. search rules)) in
    ap (λ ts. (slice_index_or ts c.in-Ok.n c.index-terms-n.result).1) c.terms-terms.ensures.all
    ∙ coefficient_found c.args.f.now c.args.i c.in-Ok.n c.index-terms-n.result
    (rw (← c.terms-terms.ensures.all) c.in-Ok.ensures.bound)
    (rw (← c.terms-terms.ensures.all) found)

pub returns-in-Err : goal.returns-in-Err
returns-in-Err c =
    let parted = c.in-Err.ensures.position (λ t. nat_cmp t.0 c.args.i)
    (always_returns_same _ _ _ (λ a r f called. search rules)) in
    c.zero.ensures
    ∙ coefficient_absent c.args.f.now c.args.i c.in-Err.field-0
    (rw (← c.terms-terms.ensures.all) c.in-Err.ensures.bound)
    (rw (← c.terms-terms.ensures.all) parted)
