use Rattle.std.specs.Prelude.{◌<◌, ◌≤◌, ◌≡◌, All, length, refl}
use Rattle.std.proofs.Common.{arith, ◌∙◌, ap, get_or, subst, sym}
use Rattle.aff_core.specs.Function.{coefficient}
use Rattle.ratio_core.specs.Folds.{sum_from}
use Rattle.ratio_core.specs.Rational.{zero_ℚ}
use Rattle.certificates.specs.Duals.{reduced_cost, rows_with}
use Rattle.certificates.specs.Points.{objective_function, sense_of}
use Rattle.cert_core.specs.Folds.{AddUp, CostFits, adjoint_parts}
use Rattle.cert_core.proofs.Parts.{adjoint_is}
use Rattle.dual_laws.specs.Held.{adjoint}
use Rattle.adjoint_core.specs.Told.{FirstNot}
use Rattle.adjoint_core.proofs.Halving.{far_gone, far_there}
use Rattle.adjoint_core.proofs.InOrder.{made_refused, made_step, told_on}
use Rattle.adjoint_core.proofs.costs.reduced_costs.Goals as goal

pub returns-in_default : goal.returns-in_default
returns-in_default c =
    let hs = rows_with c.args.duals.now c.args.rows.now.items in
    let sense = sense_of c.args.objective.now in
    let cost = coefficient (objective_function c.args.objective.now) in
    let us = c.args.users.now in
    let i = c.loop-i.i in
    let x = c.user-item.result in
    let sums = c.in_ok-sums.sums.items in
    let all = c.addresses-user-items.ensures.value in
    let here = subst (λ l. x ≡ get_or l i x) all c.user-item.is in
    let lt = subst (λ l. i < length l) all c.loop-i-test.true in
    let none : length sums ≤ i =
    subst (λ l. length l ≤ i) c.deref.ensures.value c.in_default.ensures.lookup.3 in
    let gone = far_gone (λ v. AddUp zero_ℚ (adjoint_parts hs v))
    (λ v. sum_from zero_ℚ (adjoint_parts hs v)) us sums i x c.in_ok-sums.ensures none
    c.loop-i.invariant.1 here lt in
    made_refused
    (λ v. AddUp zero_ℚ (adjoint_parts hs v) × CostFits sense (cost v) (adjoint hs v)) (λ v. v)
    (λ v. reduced_cost sense (cost v) (adjoint hs v)) us i c.loop-i.costs.items
    c.loop-i.invariant.0 x here lt x ((λ both. gone both.0), refl)

pub returns-in_err-cost_left : goal.returns-in_err-cost_left
returns-in_err-cost_left c =
    let hs = rows_with c.args.duals.now c.args.rows.now.items in
    let sense = sense_of c.args.objective.now in
    let cost = coefficient (objective_function c.args.objective.now) in
    let us = c.args.users.now in
    let i = c.loop-i.i in
    let x = c.user-item.result in
    let sums = c.in_ok-sums.sums.items in
    let all = c.addresses-user-items.ensures.value in
    let here = subst (λ l. x ≡ get_or l i x) all c.user-item.is in
    let lt = subst (λ l. i < length l) all c.loop-i-test.true in
    let below : i < length sums =
    subst (λ l. i < length l) c.deref.ensures.value c.in-Some.ensures.lookup.3.0 in
    let there : c.in-Some.sum.now ≡ get_or sums i c.in-Some.sum.now =
    subst (λ l. c.in-Some.sum.now ≡ get_or l i c.in-Some.sum.now) c.deref.ensures.value
    c.in-Some.ensures.lookup.1 in
    let far = far_there (λ v. AddUp zero_ℚ (adjoint_parts hs v))
    (λ v. sum_from zero_ℚ (adjoint_parts hs v)) us sums i x c.in-Some.sum.now c.in_ok-sums.ensures
    below there here lt in
    let sum_is : c.in-Some.sum.now ≡ adjoint hs x = far.1 ∙ adjoint_is hs x in
    told_on c.from_residual-in_err-cost_left.result c.in_err-cost_left.field-0.0
    (CostFits sense (cost x) c.in-Some.sum.now)
    (All (λ v. AddUp zero_ℚ (adjoint_parts hs v) × CostFits sense (cost v) (adjoint hs v)) us) _ _ _
    (FirstNot (λ v. AddUp zero_ℚ (adjoint_parts hs v) × CostFits sense (cost v) (adjoint hs v))
    (λ v. v) us)
    c.from_residual-in_err-cost_left.ensures.1 c.in_err-cost_left.ensures
    (λ at k. made_refused
    (λ v. AddUp zero_ℚ (adjoint_parts hs v) × CostFits sense (cost v) (adjoint hs v)) (λ v. v)
    (λ v. reduced_cost sense (cost v) (adjoint hs v)) us i c.loop-i.costs.items
    c.loop-i.invariant.0 x here lt at
    ((λ both. k.0 (subst (CostFits sense (cost x)) (sym sum_is) both.1)), k.1))

pub loop-i-preserved : goal.loop-i-preserved
loop-i-preserved c =
    let hs = rows_with c.args.duals.now c.args.rows.now.items in
    let sense = sense_of c.args.objective.now in
    let cost = coefficient (objective_function c.args.objective.now) in
    let us = c.args.users.now in
    let i = c.loop-i.i in
    let x = c.user-item.result in
    let sums = c.in_ok-sums.sums.items in
    let all = c.addresses-user-items.ensures.value in
    let here = subst (λ l. x ≡ get_or l i x) all c.user-item.is in
    let lt = subst (λ l. i < length l) all c.loop-i-test.true in
    let below : i < length sums =
    subst (λ l. i < length l) c.deref.ensures.value c.in-Some.ensures.lookup.3.0 in
    let there : c.in-Some.sum.now ≡ get_or sums i c.in-Some.sum.now =
    subst (λ l. c.in-Some.sum.now ≡ get_or l i c.in-Some.sum.now) c.deref.ensures.value
    c.in-Some.ensures.lookup.1 in
    let far = far_there (λ v. AddUp zero_ℚ (adjoint_parts hs v))
    (λ v. sum_from zero_ℚ (adjoint_parts hs v)) us sums i x c.in-Some.sum.now c.in_ok-sums.ensures
    below there here lt in
    let sum_is : c.in-Some.sum.now ≡ adjoint hs x = far.1 ∙ adjoint_is hs x in (
      made_step
          (λ v. AddUp zero_ℚ (adjoint_parts hs v) × CostFits sense (cost v) (adjoint hs v)) (λ v. v)
          (λ v. reduced_cost sense (cost v) (adjoint hs v)) us i c.loop-i.costs.items
          c.loop-i.invariant.0 x here lt c.in_ok-cost_left.field-0 c.push.new.self.items
          (far.0, subst (CostFits sense (cost x)) sum_is c.in_ok-cost_left.ensures.0)
          (c.in_ok-cost_left.ensures.1 ∙ ap (reduced_cost sense (cost x)) sum_is)
          c.in_ok-push.ensures.items,
      omega (arith, below),
    )
