use Rattle.std.specs.Prelude.{◌≡◌, All, Ok, map}
use Rattle.std.proofs.Common.{◌∙◌, ap, subst, sym}
use Rattle.ratio_core.specs.Rational.{SumFits, zero_ℚ, ◌+ℚ◌}
use Rattle.ratio_core.specs.AnsweredLaws.{passed_on}
use Rattle.aff_core.specs.Points.{spread}
use Rattle.dual_laws.specs.Held.{adjoint}
use Rattle.set_core.specs.Membership.{DualFits}
use Rattle.certificates.specs.Duals.{rows_with, with_duals}
use Rattle.cert_core.specs.Checked.{model_of}
use Rattle.cert_core.specs.Folds.{AddUp, InfeasibleFits, adjoint_parts, gap_parts}
use Rattle.certificates.specs.Points.{all_addresses}
use Rattle.cert_core.proofs.Assembled.{at_own, numbers_of_model, size_of_model}
use Rattle.cert_core.proofs.Judged.{equal_told, is_infeasible, sums_are}
use Rattle.cert_core.proofs.Tested.{all_four, iff_trans}
use Rattle.cert_core.proofs.checking.Parts.is_infeasible.Goals as goal

pub returns-in_err-in_sets : goal.returns-in_err-in_sets
returns-in_err-in_sets c = λ next.
    let groups = c.args.self.now.groups.now.items in
    let rows = c.args.self.now.rows.now.items in
    let objective = c.args.self.now.objective.now in
    let us = c.args.self.now.variables in
    let ys = c.args.duals.now.rows.now in
    let vs = c.args.duals.now.vars.now in
    let model = model_of groups rows objective next in
    passed_on c.from_residual.result c.in_err-in_sets.field-0.0
    (All (λ h. DualFits h.set h.duals) (with_duals model ys vs)) (InfeasibleFits model ys vs) _ _
    c.from_residual.ensures.1 (c.in_err-in_sets.ensures next) (λ fits. fits.duals.sets)

pub returns-in_err-equal : goal.returns-in_err-equal
returns-in_err-equal c = λ next.
    let groups = c.args.self.now.groups.now.items in
    let rows = c.args.self.now.rows.now.items in
    let objective = c.args.self.now.objective.now in
    let us = c.args.self.now.variables in
    let ys = c.args.duals.now.rows.now in
    let vs = c.args.duals.now.vars.now in
    let model = model_of groups rows objective next in
    let a = adjoint (rows_with ys rows) in
    let w = spread (all_addresses groups) vs in
    let here = c.addresses.ensures.value ∙ c.requires.ready.variables in
    let a_is = ap (map a) c.addresses.ensures.value
    ∙ sums_are (rows_with ys rows) us c.in_ok-sums.sums.items c.in_ok-sums.ensures.1
    ∙ sym c.deref.ensures.value in
    let w_is = ap (map w) here
    ∙ numbers_of_model groups rows us vs c.requires.ready c.requires.vars in
    passed_on c.from_residual-in_err-equal.result c.in_err-equal.field-0.0
    (All (λ v. SumFits (a v) (w v)) c.addresses.result.now) (InfeasibleFits model ys vs) _ _
    c.from_residual-in_err-equal.ensures.1 (c.in_err-equal.ensures a w a_is w_is)
    (λ fits. subst (All (λ v. SumFits (a v) (w v))) (sym here) fits.equations)

pub returns-in_err-of_duals : goal.returns-in_err-of_duals
returns-in_err-of_duals c = λ next.
    let groups = c.args.self.now.groups.now.items in
    let rows = c.args.self.now.rows.now.items in
    let objective = c.args.self.now.objective.now in
    let us = c.args.self.now.variables in
    let ys = c.args.duals.now.rows.now in
    let vs = c.args.duals.now.vars.now in
    let model = model_of groups rows objective next in
    passed_on c.from_residual-in_err-of_duals.result c.in_err-of_duals.field-0.0
    (AddUp zero_ℚ (gap_parts (with_duals model ys vs))) (InfeasibleFits model ys vs) _ _
    c.from_residual-in_err-of_duals.ensures.1 (c.in_err-of_duals.ensures next)
    (λ fits. fits.duals.gap)

pub returns : goal.returns
returns c = λ next.
    let groups = c.args.self.now.groups.now.items in
    let rows = c.args.self.now.rows.now.items in
    let objective = c.args.self.now.objective.now in
    let us = c.args.self.now.variables in
    let ys = c.args.duals.now.rows.now in
    let vs = c.args.duals.now.vars.now in
    let model = model_of groups rows objective next in
    let a = adjoint (rows_with ys rows) in
    let w = spread (all_addresses groups) vs in
    let here = c.addresses.ensures.value ∙ c.requires.ready.variables in
    let a_is = ap (map a) c.addresses.ensures.value
    ∙ sums_are (rows_with ys rows) us c.in_ok-sums.sums.items c.in_ok-sums.ensures.1
    ∙ sym c.deref.ensures.value in
    let w_is = ap (map w) here
    ∙ numbers_of_model groups rows us vs c.requires.ready c.requires.vars in
    let sets = c.in_ok-in_sets.ensures next in
    let equal = at_own groups c.addresses.result.now here (Ok c.in_ok-equal.equal)
    (λ v. SumFits (a v) (w v)) (λ v. a v +ℚ w v ≡ zero_ℚ) (c.in_ok-equal.ensures a w a_is w_is) in
    let gap = c.in_ok-of_duals.ensures next in
    is_infeasible model ys vs c.requires.rows
    (size_of_model groups rows us vs c.requires.ready c.requires.vars) c.args.gap.now
    c.in_ok-of_duals.of_duals c.in_ok-in_sets.in_sets c.in_ok-equal.equal c.eq-is_gap.result
    c.is_positive-has_gap.result c.all_true.result sets.0 sets.1
    (subst (All (λ v. AddUp zero_ℚ (adjoint_parts (rows_with ys rows) v)))
    c.requires.ready.variables c.in_ok-sums.ensures.0) equal.0 equal.1 gap.0 gap.1
    (equal_told c.eq-is_gap.result c.args.gap.now c.in_ok-of_duals.of_duals c.eq-is_gap.ensures)
    c.is_positive-has_gap.ensures
    (iff_trans _ _ _ c.all_true.ensures (all_four c.in_ok-in_sets.in_sets c.in_ok-equal.equal
    c.eq-is_gap.result c.is_positive-has_gap.result))
