-- What a call answers that bridges a model, by the plan's answer.
use Rattle.std.specs.Prelude.{◌≡◌, ◌≢◌, ℕ, true, List, All, Result, Ok, Err, Some, refl}
use Rattle.std.specs.FinMap as finite
use Rattle.std.proofs.Common.{sym, ap, subst, ◌∙◌}
use Rattle.std.proofs.lemmas.Option.{none-some}
use Rattle.address_map.specs.AddressMap.{AddressMap}
use Rattle.aff_core.specs.Address.{Address}
use Rattle.bridge_set.specs.Bridges.{Bridges, choice_in, families_of, kept_by, means_of, setting_by, setting_of}
use Rattle.bridge_face.specs.BridgeState.{BridgeState}
use Rattle.bridge_plan.specs.Means.{AreSound, Means}
use Rattle.fresh_bridging.specs.ChoiceLaws.{one_choice}
use Rattle.fresh_bridging.specs.FreshBridging.{FreshBridging, IsUnsupported, unfit_at}
use Rattle.fresh_bridging.specs.TheRules.{AreChoices, Setting, graph_of}
use Rattle.item_core.specs.declared.family.Family.{Family}
use Rattle.item_core.specs.declared.table.Table.{Table}
use Rattle.lazy_bridge.specs.Native.{supports_native}
use Rattle.lazy_bridge.specs.NativeLaws.{supported}
use Rattle.lazy_bridge.specs.Few.{ChangesFew}
use Rattle.lazy_bridge.specs.Owned.{HasLeavesOf, HoldsNothing, Owned, leaf_model_in, setting_in}
use Rattle.lazy_bridge.specs.Plans.{HoldsPlan, IsPuttable}
use Rattle.lazy_bridge.specs.Pushed.{Counts, IsBridgedBy, IsTried}
use Rattle.lazy_bridge.proofs.Puttable.{puttable}
use Rattle.lazy_bridge.proofs.Putting.{read_alike}
use Rattle.lazy_bridge.proofs.Standing.{stands}
use Rattle.model_bridging.specs.Planned.{IsPlanOf, Planned}
use Rattle.model_bridging.specs.declared.fault.PushFault.{PushFault}
use Rattle.model_bridging.specs.declared.fault.PushFault.TheVariants.{Unsupported, Overflow, Memory}
use Rattle.model_bridging.specs.declared.model_plan.ModelPlan.{ModelPlan}
use Rattle.small_number_laws.specs.ModelLaws.{small_numbers_fit}
use Rattle.small_number_laws.specs.SmallNumbers.{HasSmallNumbers}
use Rattle.solver_store.specs.SolverModel.{StoredLeaves, no_leaves}
use Rattle.user_model.specs.Model.{ModelValue}
use Rattle.user_model.specs.Valid.{IsValid}

-- a plan that was made can be put in
pub can_be_put : (old : Owned) (tried : List Family) (model : ModelValue) (planned : ModelPlan)
    → AreSound (means_of old.bridges) → supports_native old.bridges.table ≡ true → IsValid model
    → IsPlanOf (setting_in old) model planned → tried ≡ families_of old.bridges.states
    → IsPuttable tried planned
can_be_put old tried model planned sound native valid plan same =
    subst (λ fs. IsPuttable fs planned) (sym same)
    (puttable (setting_in old) sound.costly sound.lawful (supported (setting_in old) native) model
    valid planned plan)

-- and is the model's bridging once it stands there
pub bridged : (old now new : Owned) (model : ModelValue) (planned : ModelPlan) (n : ℕ)
    → IsPlanOf (setting_in old) model planned → HasLeavesOf old now
    → HoldsPlan now model planned new
    → setting_in new ≡ setting_in now → Counts (leaf_model_in now) (leaf_model_in new) n
    → IsValid model → IsBridgedBy old old.bridges.table model (Ok n) new
bridged old now new model planned n plan alike holds same counts valid =
    let setting : setting_in new ≡ setting_in old = same ∙ alike.setting in (
      stands now new (setting_in old) model planned plan holds setting valid,
      setting,
      subst (λ l. Counts l (leaf_model_in new) n) (read_alike old now alike) counts,
    )

-- a fault of the planning changes nothing but turns
pub refused : (old new : Owned) (model : ModelValue) (fault : PushFault)
    → (fault ≡ Memory → ⊥) → Planned (setting_in old) model (Err fault) → IsTried old new
    → IsBridgedBy old old.bridges.table model (Err fault) new
refused old new model (Unsupported kind) other plan same = (plan, same)
refused old new model (Overflow at) other plan same = (plan, same)
refused old new model Memory other plan same = absurd (other refl)

-- where the model's numbers are small, each fits
pub no_overflow : {T : Type 0} (old : Owned) (model : ModelValue) (fault : PushFault)
    (r : Result T PushFault) → r ≡ Err fault → AreSound (means_of old.bridges) → IsValid model
    → Planned (setting_in old) model (Err fault) → HasSmallNumbers model → (at : Address)
    → r ≢ Err (Overflow at)
no_overflow old model fault r is sound valid plan small at e =
    let same : fault ≡ Overflow at = cc in
    let unfit = subst (λ f. Planned (setting_in old) model (Err f)) same plan in
    none-some at
    (sym (small_numbers_fit (setting_in old) sound.costly sound.lawful model valid small
    unfit.0).unfit
    ∙ unfit.1)

-- ---- by another table, and back

-- another table was set, and nothing else
pub record IsSet (old new : Owned) (table : Table) : Type 0 where
  pub table_is : new.bridges.table ≡ table
  pub states : new.bridges.states ≡ old.bridges.states
  pub solver : new.solver ≡ old.solver
  pub map : new.map ≡ old.map
  pub objective_at : new.objective_at ≡ old.objective_at

set_setting : (old new : Owned) (table : Table) → IsSet old new table
    → setting_in new ≡ setting_by table old.bridges.states
set_setting old new table h = λ i. setting_by (h.table_is i) (h.states i)

set_leaves : (old new : Owned) (table : Table) → IsSet old new table
    → leaf_model_in new ≡ leaf_model_in old
set_leaves old new table h = λ i. leaf_model_in (record {
  bridges = new.bridges;
  solver = h.solver i;
  map = h.map i;
  objective_at = h.objective_at i;
})

-- sound choices by one setting are the same
pub same_means : (a b : Bridges) → AreSound (means_of a) → AreSound (means_of b)
    → setting_of a ≡ setting_of b → kept_by a.states ≡ kept_by b.states → means_of a ≡ means_of b
same_means a b sound also e k = λ i. record {
  setting = e i;
  choice = λ kind. chosen kind i;
  kept = k i;
}
  where
    chosen : (kind : ℕ) → choice_in a.choices kind ≡ choice_in b.choices kind
    chosen kind =
        one_choice (graph_of (setting_of b)) also.costly kind (choice_in a.choices kind)
        (choice_in b.choices kind)
        (subst (λ s. AreChoices s (choice_in a.choices)) e sound.chosen kind) (also.chosen kind)

module _ (old first second last : Owned) (table : Table) (model : ModelValue)
    (set : IsSet old first table) (back : IsSet second last old.bridges.table)
    (sound : AreSound (means_of old.bridges)) (also : AreSound (means_of last.bridges)) where
  restored : IsTried first second → IsTried old last
  restored h = record {
    means =
        same_means last.bridges old.bridges also sound
        (set_setting second last old.bridges.table back
        ∙ ap (λ fs. record { table = old.bridges.table; families = fs })
        (ap (λ (m : Means). m.setting.families) h.means ∙ ap families_of set.states))
        (ap kept_by back.states ∙ ap (λ (m : Means). m.kept) h.means ∙ ap kept_by set.states);
    solver = back.solver ∙ h.solver ∙ set.solver;
    map = back.map ∙ h.map ∙ set.map;
    objective_at = back.objective_at ∙ h.objective_at ∙ set.objective_at;
  }

  still_nothing : HoldsNothing second → HoldsNothing last
  still_nothing h = record {
    leaves = subst (λ (s : StoredLeaves). s.leaves ≡ no_leaves s.leaves.calls) (sym back.solver) h.leaves;
    vars = ap (λ (m : AddressMap). m.vars.indices) back.map ∙ h.vars;
    rows = ap (λ (m : AddressMap). m.rows.indices) back.map ∙ h.rows;
    exprs = ap (λ (m : AddressMap). m.exprs) back.map ∙ h.exprs;
    noted = ap (λ (m : AddressMap). m.noted) back.map ∙ h.noted;
    marks = ap (λ (m : AddressMap). m.kept) back.map ∙ h.marks;
    kept = subst (All (λ (bridge : BridgeState). bridge.kept ≡ finite.empty)) (sym back.states) h.kept;
  }

  pub set_back : (fault : PushFault) → IsBridgedBy first first.bridges.table model (Err fault) second
      → IsBridgedBy old table model (Err fault) last
  set_back (Unsupported kind) h = (
    subst (λ s. IsUnsupported s model kind) (set_setting old first table set) h.0,
    restored h.1,
  )
  set_back (Overflow at) h = (
    subst (λ s. (bridging : FreshBridging s model) × (unfit_at bridging ≡ Some at))
        (set_setting old first table set) h.0,
    restored h.1,
  )
  set_back Memory h = (
    still_nothing h.0,
    set_setting second last old.bridges.table back
        ∙ ap (λ fs. record { table = old.bridges.table; families = fs })
        (ap (λ (s : Setting). s.families) h.1 ∙ ap families_of set.states),
  )

-- where the other table rewrites the model
pub set_on : (old first second : Owned) (table : Table) (model : ModelValue) (n : ℕ)
    → IsSet old first table → IsBridgedBy first first.bridges.table model (Ok n) second
    → IsBridgedBy old table model (Ok n) second
set_on old first second table model n set h = (
  h.0,
  h.1 ∙ set_setting old first table set,
  subst (λ l. Counts l (leaf_model_in second) n) (set_leaves old first table set) h.2,
)

-- with as few changes
pub few_on : (old first second : Owned) (table : Table) (n : ℕ) → IsSet old first table
    → ChangesFew first n second → ChangesFew old n second
few_on old first second table n set few =
    let back : ChangesFew (record first { solver = old.solver; map = old.map }) n second =
    subst (λ (p : StoredLeaves × AddressMap). ChangesFew (record first { solver = p.0; map = p.1 }) n
    second) (λ i. (set.solver i, set.map i)) few in
    record {
      rises = back.rises;
      calls = back.calls;
      variables = back.variables;
      rows = back.rows;
    }
