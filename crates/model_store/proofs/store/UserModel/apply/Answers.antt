use Rattle.std.proofs.Common.{sym, ap, subst, ◌∙◌}
use Rattle.user_model.specs.Consistent.{IsConsistent, IsWithinLimits}
use Rattle.user_model.specs.Edited.{edited}
use Rattle.user_model.specs.Undone.{IsUndo}
use Rattle.user_model.specs.Valid.{IsValid}
use Rattle.model_laws.specs.KeptValid.{kept_valid}
use Rattle.model_laws.specs.KeptConsistent.{kept_consistent}
use Rattle.model_laws.specs.KeptWithin.{kept_within}
use Rattle.model_catalog.specs.Exchange.{exchanged}
use Rattle.model_plans.specs.Undos.{undo_left}
use Rattle.model_store.proofs.store.UserModel.apply.Goals as goal

pub park-undo-requires-clause-consistent : goal.park-undo-requires-clause-consistent
park-undo-requires-clause-consistent c =
    let model = c.self.inside.catalog.model in
    let plan = c.in_ok-plan.plan in
    subst IsConsistent (sym (ap (exchanged plan.exchange) c.reserve.ensures.model
    ∙ c.in_ok-plan.ensures.leads.after)) (kept_consistent model c.args.edit
    c.plan_of-planned.ensures.consistent c.in_ok-plan.ensures.ok)

pub park-undo-requires-clause-within : goal.park-undo-requires-clause-within
park-undo-requires-clause-within c =
    let model = c.self.inside.catalog.model in
    let plan = c.in_ok-plan.plan in
    subst IsWithinLimits (sym (ap (exchanged plan.exchange) c.reserve.ensures.model
    ∙ c.in_ok-plan.ensures.leads.after)) (kept_within model c.args.edit
    c.plan_of-planned.ensures.consistent c.plan_of-planned.ensures.within
    c.in_ok-plan.ensures.ok)

pub returns-clause-undo : goal.returns-clause-undo
returns-clause-undo c =
    let model = c.self.inside.catalog.model in
    subst (λ s. IsUndo s.model c.park-undo.new.catalog.model c.park-undo.result) c.self.view_is
    (undo_left model (edited model c.args.edit) c.reserve.new.catalog.model
    c.park-undo.new.catalog.model c.in_ok-plan.plan c.park-undo.result
    c.in_ok-plan.ensures.leads c.reserve.ensures.model c.park-undo.ensures.model
    c.park-undo.ensures.undo)

pub returns-clause-valid : goal.returns-clause-valid
returns-clause-valid c =
    let model = c.self.inside.catalog.model in
    let plan = c.in_ok-plan.plan in
    let valid : IsValid model = record {
      consistent = c.plan_of-planned.ensures.consistent;
      within = c.plan_of-planned.ensures.within;
      parts = c.self.invariant.parts;
    } in
    subst IsValid (sym (c.park-undo.ensures.model
    ∙ (ap (exchanged plan.exchange) c.reserve.ensures.model
    ∙ c.in_ok-plan.ensures.leads.after))) (kept_valid model c.args.edit valid
    c.in_ok-plan.ensures.ok)

pub invariant_of-self-2 : goal.invariant_of-self-2
invariant_of-self-2 c =
    record { room = c.park-undo.ensures.parked; parts = (returns-clause-valid c).parts }
