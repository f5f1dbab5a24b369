use Rattle.std.specs.Prelude.{◌≡◌, All, Ok, map}
use Rattle.std.proofs.Common.{◌∙◌, ap, subst, sym}
use Rattle.ratio_core.specs.Rational.{one_ℚ, zero_ℚ}
use Rattle.ratio_core.specs.AnsweredLaws.{passed_on}
use Rattle.aff_core.specs.Function.{coefficient}
use Rattle.aff_core.specs.Points.{spread}
use Rattle.dual_laws.specs.Held.{adjoint}
use Rattle.set_core.specs.Membership.{DualFits}
use Rattle.certificates.specs.Duals.{dual_value, reduced_cost, rows_with, with_duals}
use Rattle.certificates.specs.Points.{all_addresses, objective_constant, objective_function, sense_of}
use Rattle.cert_core.specs.Checked.{model_of}
use Rattle.cert_core.specs.Folds.{AddUp, CostFits, DualValueFits, OptimalFits, adjoint_parts, gap_parts}
use Rattle.cert_core.specs.Points.{numbers_in}
use Rattle.cert_core.proofs.Assembled.{at_own, numbers_of_model, objective_told, size_of_model}
use Rattle.cert_core.proofs.Judged.{equal_told, is_optimal, sums_are}
use Rattle.cert_core.proofs.Tested.{all_five, iff_trans}
use Rattle.cert_core.proofs.checking.Parts.is_optimal.Goals as goal

pub returns-in_err-in_sets : goal.returns-in_err-in_sets
returns-in_err-in_sets c = λ next.
    let groups = c.args.self.now.groups.now.items in
    let rows = c.args.self.now.rows.now.items in
    let objective = c.args.self.now.objective.now in
    let us = c.args.self.now.variables in
    let ys = c.args.duals.now.rows.now in
    let vs = c.args.duals.now.vars.now in
    let model = model_of groups rows objective next in
    passed_on c.from_residual-in_err-in_sets.result c.in_err-in_sets.field-0.0
    (All (λ h. DualFits h.set h.duals) (with_duals model ys vs))
    (OptimalFits model c.args.x.now ys vs) _ _ c.from_residual-in_err-in_sets.ensures.1
    (c.in_err-in_sets.ensures next) (λ fits. fits.duals.sets)

pub returns-in_err-equal : goal.returns-in_err-equal
returns-in_err-equal c = λ next.
    let groups = c.args.self.now.groups.now.items in
    let rows = c.args.self.now.rows.now.items in
    let objective = c.args.self.now.objective.now in
    let us = c.args.self.now.variables in
    let ys = c.args.duals.now.rows.now in
    let vs = c.args.duals.now.vars.now in
    let model = model_of groups rows objective next in
    let a = adjoint (rows_with ys rows) in
    let w = spread (all_addresses groups) vs in
    let here = c.addresses-us.ensures.value ∙ c.requires.ready.variables in
    let a_is = ap (map a) c.addresses-us.ensures.value
    ∙ sums_are (rows_with ys rows) us c.in_ok-sums.sums.items c.in_ok-sums.ensures.1
    ∙ sym c.deref.ensures.value in
    let w_is = ap (map w) here
    ∙ numbers_of_model groups rows us vs c.requires.ready c.requires.vars in
    passed_on c.from_residual-in_err-equal.result c.in_err-equal.field-0.0
    (All (λ v. CostFits (sense_of objective) (coefficient (objective_function objective) v) (a v))
    c.addresses-us.result.now) (OptimalFits model c.args.x.now ys vs) _ _
    c.from_residual-in_err-equal.ensures.1 (c.in_err-equal.ensures a w a_is w_is)
    (λ fits. subst (All (λ v. CostFits (sense_of objective)
    (coefficient (objective_function objective) v) (a v))) (sym here) fits.equations)

pub returns-in_err-gap : goal.returns-in_err-gap
returns-in_err-gap c = λ next.
    let groups = c.args.self.now.groups.now.items in
    let rows = c.args.self.now.rows.now.items in
    let objective = c.args.self.now.objective.now in
    let us = c.args.self.now.variables in
    let ys = c.args.duals.now.rows.now in
    let vs = c.args.duals.now.vars.now in
    let model = model_of groups rows objective next in
    passed_on c.from_residual-in_err-gap.result c.in_err-gap.field-0.0
    (AddUp zero_ℚ (gap_parts (with_duals model ys vs))) (OptimalFits model c.args.x.now ys vs) _ _
    c.from_residual-in_err-gap.ensures.1 (c.in_err-gap.ensures next) (λ fits. fits.duals.gap)

pub returns-in_err-dual : goal.returns-in_err-dual
returns-in_err-dual c = λ next.
    let groups = c.args.self.now.groups.now.items in
    let rows = c.args.self.now.rows.now.items in
    let objective = c.args.self.now.objective.now in
    let us = c.args.self.now.variables in
    let ys = c.args.duals.now.rows.now in
    let vs = c.args.duals.now.vars.now in
    let model = model_of groups rows objective next in
    let gap = c.in_ok-gap.gap in
    passed_on c.from_residual-in_err-dual.result c.in_err-dual.field-0.0
    (DualValueFits c.sense.result c.constant.result gap) (OptimalFits model c.args.x.now ys vs) _ _
    c.from_residual-in_err-dual.ensures.1 c.in_err-dual.ensures
    (λ fits. subst (λ s. DualValueFits s c.constant.result gap) (sym c.sense.ensures)
    (subst (λ q. DualValueFits (sense_of objective) q gap) (sym c.constant.ensures)
    (subst (DualValueFits (sense_of objective) (objective_constant model))
    (sym (c.in_ok-gap.ensures next).1) fits.dual_value)))

pub returns : goal.returns
returns c = λ next.
    let groups = c.args.self.now.groups.now.items in
    let rows = c.args.self.now.rows.now.items in
    let objective = c.args.self.now.objective.now in
    let us = c.args.self.now.variables in
    let ys = c.args.duals.now.rows.now in
    let vs = c.args.duals.now.vars.now in
    let model = model_of groups rows objective next in
    let a = adjoint (rows_with ys rows) in
    let w = spread (all_addresses groups) vs in
    let here = c.addresses-us.ensures.value ∙ c.requires.ready.variables in
    let a_is = ap (map a) c.addresses-us.ensures.value
    ∙ sums_are (rows_with ys rows) us c.in_ok-sums.sums.items c.in_ok-sums.ensures.1
    ∙ sym c.deref.ensures.value in
    let w_is = ap (map w) here
    ∙ numbers_of_model groups rows us vs c.requires.ready c.requires.vars in
    let x = c.args.x.now in
    let point = c.in_ok-feasible.ensures next in
    let primal = objective_told groups us c.requires.ready.variables x (numbers_in c.new-at.result)
    c.new-at.ensures (Ok c.in_ok-primal.primal) (objective_function objective) one_ℚ
    c.in_ok-primal.ensures in
    let sets = c.in_ok-in_sets.ensures next in
    let equal = at_own groups c.addresses-us.result.now here (Ok c.in_ok-equal.equal)
    (λ v. CostFits (sense_of objective) (coefficient (objective_function objective) v) (a v))
    (λ v. w v ≡ reduced_cost (sense_of objective)
    (coefficient (objective_function objective) v) (a v))
    (c.in_ok-equal.ensures a w a_is w_is) in
    let gap = c.in_ok-gap.ensures next in
    let value = c.args.value.now in
    is_optimal model ys vs c.requires.rows
    (size_of_model groups rows us vs c.requires.ready c.requires.vars) value
    c.in_ok-primal.primal c.in_ok-dual.dual c.in_ok-gap.gap x c.in_ok-feasible.feasible
    c.in_ok-in_sets.in_sets c.in_ok-equal.equal c.eq-is_primal.result c.eq-is_dual.result
    c.all_true.result (size_of_model groups rows us x c.requires.ready c.requires.size)
    point.0 point.1 primal.0 primal.1 sets.0 sets.1
    (subst (All (λ v. AddUp zero_ℚ (adjoint_parts (rows_with ys rows) v)))
    c.requires.ready.variables c.in_ok-sums.ensures.0) equal.0 equal.1 gap.0 gap.1
    (subst (λ q. DualValueFits (sense_of objective) q c.in_ok-gap.gap) c.constant.ensures
    (subst (λ s. DualValueFits s c.constant.result c.in_ok-gap.gap) c.sense.ensures
    c.in_ok-dual.ensures.0))
    (c.in_ok-dual.ensures.1
    ∙ (λ k. dual_value (c.sense.ensures k) (c.constant.ensures k) c.in_ok-gap.gap))
    (equal_told c.eq-is_primal.result value c.in_ok-primal.primal c.eq-is_primal.ensures)
    (equal_told c.eq-is_dual.result value c.in_ok-dual.dual c.eq-is_dual.ensures)
    (iff_trans _ _ _ c.all_true.ensures (all_five c.in_ok-feasible.feasible
    c.in_ok-in_sets.in_sets c.in_ok-equal.equal c.eq-is_primal.result c.eq-is_dual.result))
