-- A user's model by its groups, its rows and its objective, as its readers tell them.
use Rattle.std.specs.Prelude.{◌≡◌, List, ◌++◌, Option, None, Result, Ok, Err, IsErrAnd, map}
use Rattle.std.proofs.Common.{sym, subst}
use Rattle.item_core.specs.declared.kind.Kind.{Kind}
use Rattle.user_model.specs.Model.{ModelValue}
use Rattle.user_model.specs.Valid.{IsValid}
use Rattle.user_model.specs.declared.group.Group.{Group}
use Rattle.user_model.specs.declared.objective.Objective.{Objective}
use Rattle.user_model.specs.declared.row.Row.{Row}
use Rattle.fresh_bridging.specs.ModelImage.{group_item, objective_items, row_item}
use Rattle.bridge_plan.specs.Means.{AreSound, Means}
use Rattle.model_bridging.specs.Assembly.{answered, ready_by_kinds}
use Rattle.model_bridging.specs.Kinds.{first_missing, kinds_told}
use Rattle.model_bridging.specs.PlanOutcome.{KindsOutcome, PlanOutcome}
use Rattle.model_bridging.specs.Planned.{Planned}
use Rattle.model_bridging.specs.Treeless.{unsupported}
use Rattle.model_bridging.specs.Whole.{IsWithinLevels, IsWholePlan, unfit_item}
use Rattle.model_bridging.specs.declared.fault.PushFault.{PushFault}
use Rattle.model_bridging.specs.declared.fault.PushFault.TheVariants.{Memory, Overflow, Unsupported}
use Rattle.model_bridging.specs.declared.model_plan.ModelPlan.{ModelPlan}

module _ (means : Means) (sound : AreSound means) (model : ModelValue) (valid : IsValid model)
  where
    -- what is said of a model by its parts
    abbrev missing : List Group → List Row → Objective → Option Kind
    missing groups rows objective =
        first_missing means.choice (kinds_told means.choice (map group_item groups)
        (map row_item rows ++ objective_items objective))

    abbrev Ready : List Group → List Row → Objective → Type 0
    Ready groups rows objective =
        IsWithinLevels means.choice (map group_item groups)
        (map row_item rows ++ objective_items objective)

    abbrev Ending : Result ModelPlan PushFault → List Group → List Row → Objective → Type 0
    Ending r groups rows objective =
        PlanOutcome r (unfit_item means.choice (map group_item groups)
        (map row_item rows ++ objective_items objective)) (IsWholePlan means.choice groups
        (map row_item rows ++ objective_items objective))

    by_fault : (T : Type 0) (f : PushFault)
        → KindsOutcome {T = T} (Err f) (missing model.groups model.rows model.objective)
        → Planned means.setting model (Err f)
    by_fault T (Unsupported kind) h =
        unsupported means.setting sound.costly means.choice sound.chosen sound.lawful
        model valid kind
        h
    by_fault T (Overflow at) h = absurd h
    by_fault T Memory h = tt

    module _ (groups : List Group) (rows : List Row) (objective : Objective)
        (gs : groups ≡ model.groups) (rs : rows ≡ model.rows) (os : objective ≡ model.objective)
      where
        -- so of the model, where these are its parts
        of_the_model : (P : List Group → List Row → Objective → Type 0) → P groups rows objective
            → P model.groups model.rows model.objective
        of_the_model P p =
            subst (P model.groups model.rows) os
            (subst (λ x. P model.groups x objective) rs (subst (λ x. P x rows objective) gs p))

        of_its_parts : (P : List Group → List Row → Objective → Type 0)
            → P model.groups model.rows model.objective → P groups rows objective
        of_its_parts P p =
            subst (λ x. P x rows objective) (sym gs)
            (subst (λ x. P model.groups x objective) (sym rs)
            (subst (P model.groups model.rows) (sym os) p))

        pub refused_by_kinds : (T : Type 0) (r : Result ModelPlan PushFault) (f : PushFault)
            → IsErrAnd r (λ x. x ≡ f) → KindsOutcome {T = T} (Err f) (missing groups rows objective)
            → Planned means.setting model r
        refused_by_kinds T (Ok planned) f is h = absurd is
        refused_by_kinds T (Err x) f is h =
            subst (λ y. Planned means.setting model (Err y)) (sym is)
            (by_fault T f (of_the_model (λ g r o. KindsOutcome {T = T} (Err f) (missing g r o)) h))

        pub ready : missing groups rows objective ≡ None → Ready groups rows objective
        ready none =
            of_its_parts Ready
            (ready_by_kinds means sound model valid
            (of_the_model (λ g r o. missing g r o ≡ None) none))

        pub model_answered : (r : Result ModelPlan PushFault) → missing groups rows objective ≡ None
            → Ending r groups rows objective → Planned means.setting model r
        model_answered r none said =
            answered means.setting means.choice sound.chosen model
            (of_the_model Ready (ready none)) r (of_the_model (Ending r) said)
