use Rattle.std.specs.Prelude.{◌≡◌, ◌+◌}
use Rattle.std.proofs.Common.{◌∙◌, drop, refl, subst, sym}
use Rattle.std.proofs.Math.ListN.{drop_of_length-le}
use Rattle.ratio_core.specs.Rational.{Rational}
use Rattle.ratio_core.specs.RationalLaws.{rational_eq_Decides}
use Rattle.aff_core.specs.Address.{Address}
use Rattle.aff_core.specs.Function.{coefficient}
use Rattle.user_model.specs.declared.objective.Objective.{Objective}
use Rattle.certificates.specs.Duals.{reduced_cost}
use Rattle.certificates.specs.Points.{objective_function, sense_of}
use Rattle.cert_core.specs.Folds.{CostFits}
use Rattle.map_laws.specs.LoopLaws.{next_item}
use Rattle.cert_core.proofs.Steps.{made_there}
use Rattle.cert_core.proofs.Tested.{tested_end, tested_step}
use Rattle.cert_core.proofs.equations.are_reduced_costs.Goals as goal

abbrev F : Objective → (Address → Rational) → Address → Type 0
F o a v = CostFits (sense_of o) (coefficient (objective_function o) v) (a v)

abbrev P : Objective → (Address → Rational) → (Address → Rational) → Address → Type 0
P o a w v = w v ≡ reduced_cost (sense_of o) (coefficient (objective_function o) v) (a v)

pub loop-i-preserved : goal.loop-i-preserved
loop-i-preserved c = λ a w a_is w_is.
    let o = c.args.objective.now in
    let us = c.args.variables.now in
    let i = c.loop-i.i in
    let v = c.index-variables-i.result in
    let next = next_item us us i v refl c.index-variables-i.is c.loop-i-test.true in
    let a_at = made_there a us c.args.adjoint.now i v c.index-adjoint-i.result a_is
    c.index-variables-i.is c.loop-i-test.true c.index-adjoint-i.is in
    let w_at = made_there w us c.args.duals.now i v c.index-duals-i.result w_is
    c.index-variables-i.is c.loop-i-test.true c.index-duals-i.is in
    let same : reduced_cost c.sense.result c.cost.result c.index-adjoint-i.result
    ≡ reduced_cost (sense_of o) (coefficient (objective_function o) v) (a v) =
    (λ k. reduced_cost (c.sense.ensures k) (c.cost.ensures k) (a_at k)) in
    let fits : F o a v =
    subst (CostFits (sense_of o) (coefficient (objective_function o) v)) a_at
    (subst (λ q. CostFits (sense_of o) q c.index-adjoint-i.result) c.cost.ensures
    (subst (λ s. CostFits s c.cost.result c.index-adjoint-i.result) c.sense.ensures
    c.in_ok-left.ensures.0)) in
    let decides = rational_eq_Decides c.index-duals-i.result c.in_ok-left.left in
    tested_step (F o a) (P o a w) c.loop-i.all c.eq-holds.result us (drop i us)
    (drop (i + 1) us) v (c.loop-i.invariant a w a_is w_is) next fits (
      λ t. sym w_at ∙ decides.0 (sym c.eq-holds.ensures ∙ t) ∙ c.in_ok-left.ensures.1 ∙ same,
      λ e. c.eq-holds.ensures ∙ decides.1 (w_at ∙ e ∙ sym same ∙ sym c.in_ok-left.ensures.1),
    )

pub returns : goal.returns
returns c = λ a w a_is w_is.
    let o = c.args.objective.now in
    tested_end (F o a) (P o a w) c.loop-i.all c.args.variables.now
    (drop c.loop-i.i c.args.variables.now) (c.loop-i.invariant a w a_is w_is)
    (drop_of_length-le c.args.variables.now c.loop-i-test.false)
