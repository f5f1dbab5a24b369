use Rattle.std.specs.Prelude.{◌≡◌}
use Rattle.std.proofs.Common.{◌∙◌, subst}
use Rattle.aff_core.specs.Function.{coefficient}
use Rattle.certificates.specs.Duals.{reduced_cost}
use Rattle.certificates.specs.Points.{objective_function, sense_of}
use Rattle.cert_core.specs.Folds.{CostFits}
use Rattle.cert_core.proofs.Steps.{made_there}
use Rattle.dualization.proofs.CarryLemmas.{made_more}
use Rattle.dualization.proofs.carrying.reduced_costs.Goals as goal

pub loop-i-preserved : goal.loop-i-preserved
loop-i-preserved c = λ a a_is.
    let o = c.args.objective.now in
    let us = c.args.vars.now in
    let i = c.loop-i.i in
    let v = c.index-vars-i.result in
    let cost = coefficient (objective_function o) in
    let a_at = made_there a us c.args.adjoints.now i v c.index-adjoints-i.result a_is
    c.index-vars-i.is c.loop-i-test.true c.index-adjoints-i.is in
    let same : reduced_cost c.sense.result c.cost.result c.index-adjoints-i.result
    ≡ reduced_cost (sense_of o) (cost v) (a v) =
    (λ k. reduced_cost (c.sense.ensures k) (c.cost.ensures k) (a_at k)) in
    let fits : CostFits (sense_of o) (cost v) (a v) =
    subst (CostFits (sense_of o) (cost v)) a_at
    (subst (λ q. CostFits (sense_of o) q c.index-adjoints-i.result) c.cost.ensures
    (subst (λ s. CostFits s c.cost.result c.index-adjoints-i.result) c.sense.ensures
    c.in_ok-reduced_cost.ensures.0)) in
    made_more (λ v. CostFits (sense_of o) (cost v) (a v))
    (λ v. reduced_cost (sense_of o) (cost v) (a v)) us i v c.in_ok-reduced_cost.field-0
    c.loop-i.left.items c.push.new.self.items c.index-vars-i.is c.loop-i-test.true fits
    (c.in_ok-reduced_cost.ensures.1 ∙ same) c.in_ok-push.ensures.items (c.loop-i.invariant a a_is)
