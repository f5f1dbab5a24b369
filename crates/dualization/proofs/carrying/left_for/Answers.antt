use Rattle.std.proofs.Common.{◌∙◌}
use Rattle.dual_laws.specs.Held.{adjoint}
use Rattle.certificates.specs.Duals.{rows_with}
use Rattle.dualization.proofs.CarryLemmas.{left_told}
use Rattle.dualization.proofs.carrying.left_for.Goals as goal

pub returns : goal.returns
returns c =
    let model = c.args.model.now.model in
    left_told (λ v. v.items) c.reduced_costs.result model c.args.duals.now c.args.vars.now
    c.objective.result.now c.rows.result.now.items c.addresses.result.now c.as_slice.result.now
    c.objective.ensures.value c.rows.ensures.value c.addresses.ensures.value
    c.in_ok-adjoints.ensures.0 (c.as_slice.ensures.value ∙ c.in_ok-adjoints.ensures.1)
    (c.reduced_costs.ensures (λ v. adjoint (rows_with c.args.duals.now model.rows) v))
