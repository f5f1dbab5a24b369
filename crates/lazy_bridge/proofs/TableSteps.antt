-- Another table for a bridged model, by its steps.
use Rattle.std.specs.Prelude.{◌≡◌, ◌<◌, ◌≤◌, ◌+◌, ◌-◌, ◌^◌, ℕ, Bool, true, false, List, Result, Ok, Err, IsErrAnd, length, min, refl, slice_index_or}
use Rattle.std.proofs.Common.{arith, ap, sym, subst, ◌∙◌}
use Rattle.address_map.specs.AddressMap.{AddressMap}
use Rattle.aff_core.specs.Address.{Address}
use Rattle.bridge_graph.specs.declared.Choice.{Choice}
use Rattle.bridge_face.specs.BridgeState.{BridgeState}
use Rattle.bridge_plan.specs.Means.{AreSound, Means}
use Rattle.bridge_plan.specs.declared.plan.Plan.{Plan}
use Rattle.bridge_set.specs.Bridges.{Bridges, choice_in, families_of, means_of, occur_once, setting_by, setting_of}
use Rattle.bridge_set.specs.Turns.{turns_of}
use Rattle.push_laws.specs.Edits.{AttachedEdit}
use Rattle.found_plan.specs.Read.{is_marked}
use Rattle.fresh_bridging.specs.Entries.{Entry}
use Rattle.item_core.specs.Kind.{kind_count, kind_number}
use Rattle.item_core.specs.declared.kind.Kind.{Kind}
use Rattle.item_core.specs.declared.table.Table.{Table}
use Rattle.table_change.specs.ChangedKindLaws.{changed_alike}
use Rattle.table_change.specs.ChangedKinds.{is_changed}
use Rattle.lazy_bridge.specs.Steps.{IsChangedOf, IsEditOf, IsHeldBy, IsPlannedOf, IsRefusedBy}
use Rattle.lazy_bridge.specs.Few.{ChangesFew, IsRetabledByFew}
use Rattle.lazy_bridge.specs.Native.{supports_native}
use Rattle.lazy_bridge.specs.NativeLaws.{supported}
use Rattle.lazy_bridge.specs.Owned.{IsBridgingOf, Owned, setting_in}
use Rattle.lazy_bridge.specs.Pushed.{IsBridgedBy}
use Rattle.lazy_bridge.specs.Tables.{IsRetabledFrom, IsRetabledTo, IsTableStart, IsTurnedTo}
use Rattle.lazy_bridge.proofs.Composing.{held_in, stands_in}
use Rattle.lazy_bridge.proofs.Rebridging.{IsSet}
use Rattle.leaf_update.specs.Named.{NamesEach}
use Rattle.model_bridging.specs.Planned.{Planned}
use Rattle.fresh_bridging.specs.TheRules.{Setting}
use Rattle.model_bridging.specs.declared.fault.PushFault.{PushFault}
use Rattle.model_bridging.specs.declared.fault.PushFault.TheVariants.{Unsupported, Overflow, Memory}
use Rattle.solver_store.specs.SolverModel.{StoredLeaves}
use Rattle.table_change.specs.Given.{AreGiven, passes}
use Rattle.lazy_bridge.proofs.TableEdits.{AreRetabled, table_edit}
use Rattle.touched_items.specs.declared.differing.Differing.{Differing}
use Rattle.user_model.specs.Model.{ModelValue}

module _ (bridges : Bridges) (table : Table) (choices : List Choice) (solver : StoredLeaves)
    (places : AddressMap) (objective_at : Address) (model : ModelValue)
    (start : IsTableStart bridges table choices solver places objective_at model) where
  abbrev told : Result ℕ PushFault → Bridges → StoredLeaves → AddressMap → Address → Type 0
  told r b s p o =
      IsRetabledTo bridges table choices solver places objective_at model start r b s p o

  pub memory : (later : Bridges) → means_of later ≡ means_of bridges
      → told (Err Memory) later solver places objective_at
  memory later same = ap (λ (m : Means). m.setting) same

  module _ (now : List Choice)
      (are : (kind : Kind)
      → choice_in now (kind_number kind) ≡ (means_of bridges).choice (kind_number kind))
      (changed : List Bool)
      (each : (kind : Kind) → slice_index_or changed (kind_number kind) false
      ≡ is_changed (choice_in choices) (choice_in now) kind_count kind)
      (d : Differing) (before : AreGiven (passes changed) (is_marked places) model d.before)
      (behind : AreGiven (passes changed) (is_marked places) model d.after) where
    pub same_kinds : passes changed ≡ is_changed start.choice (means_of bridges).choice kind_count
    same_kinds =
        (λ i kind. each kind i)
        ∙ changed_alike (choice_in choices) start.choice (choice_in now) (means_of bridges).choice
        start.told are kind_count

    pub given : AreRetabled bridges start.choice places model d
    given = (
      subst (λ c. AreGiven c (is_marked places) model d.before) same_kinds before,
      subst (λ c. AreGiven c (is_marked places) model d.after) same_kinds behind,
    )

    abbrev pub edit : AttachedEdit
    edit =
        table_edit bridges table start.choice solver.leaves places objective_at model start.holds d given

    pub of_edit : (read : ModelValue) → read ≡ model → IsEditOf edit bridges places read d
    of_edit read same = record {
      means = refl;
      mapped = refl;
      model = same;
      differing = refl;
    }

    pub held_by : (later : Bridges) → means_of later ≡ means_of bridges
        → IsHeldBy edit later solver places objective_at d
    held_by later same = record {
      means = same;
      leaves = refl;
      mapped = refl;
      objective = refl;
      differing = refl;
    }

    pub refused : (later : Bridges) (f : PushFault) → means_of later ≡ means_of bridges
        → IsRefusedBy edit f → told (Err f) later solver places objective_at
    refused later (Unsupported kind) same h = (
      h,
      record {
        means = same;
        solver_is = refl;
        places_are = refl;
        objective_is = refl;
      },
    )
    refused later (Overflow at) same h = (
      h,
      record {
        means = same;
        solver_is = refl;
        places_are = refl;
        objective_is = refl;
      },
    )
    refused later Memory same h = ap (λ (m : Means). m.setting) same

    pub retabled : (standing : List Entry) (found : List Address) (plan : Plan)
        (made : IsPlannedOf edit standing found plan) (later last : Bridges) (solver_last : StoredLeaves)
        (places_last : AddressMap) (objective_last : Address) (n : ℕ)
        → means_of later ≡ means_of bridges → setting_of last ≡ setting_of later
        → turns_of later.states ≤ turns_of bridges.states + length plan.nodes.items
        → IsChangedOf edit made.step later solver places objective_at n last solver_last
        places_last objective_last
        → told (Ok n) last solver_last places_last objective_last
    retabled standing found plan made later last solver_last places_last objective_last n same
        setting turns changed_of =
        let done = changed_of.done (turns_of bridges.states)
        (subst (λ ns. turns_of later.states ≤ turns_of bridges.states + length ns) (sym made.nodes)
        turns) in
        record {
          holds = done.holds;
          setting = setting ∙ ap (λ (m : Means). m.setting) same;
          inner = done.inner;
          counted = changed_of.counted;
          rises = changed_of.rises;
          calls = changed_of.calls;
          variables = changed_of.variables;
          rows = changed_of.rows;
        }

-- a fault that is handed on
pub handed_by : (bridges : Bridges) (table : Table) (choices : List Choice) (solver : StoredLeaves)
    (places : AddressMap) (objective_at : Address) (model : ModelValue)
    (start : IsTableStart bridges table choices solver places objective_at model)
    (r : Result ℕ PushFault) (f : PushFault) (b : Bridges) (s : StoredLeaves) (p : AddressMap) (o : Address)
    → IsErrAnd r (λ x. x ≡ f)
    → IsRetabledTo bridges table choices solver places objective_at model start (Err f) b s p o
    → IsRetabledTo bridges table choices solver places objective_at model start r b s p o
handed_by bridges table choices solver places objective_at model start (Ok n) f b s p o is h = absurd is
handed_by bridges table choices solver places objective_at model start (Err g) f b s p o is h =
    subst (λ x. IsRetabledTo bridges table choices solver places objective_at model start (Err x) b s p
    o) (sym is) h

-- ---- of a lazy bridging

module _ (old : Owned) (model : ModelValue) (table : Table) (choices : List Choice)
    (start : IsTableStart old.bridges table choices old.solver old.map old.objective_at model) where
  abbrev told_by : Result ℕ PushFault → Owned → Type 0
  told_by r new =
      IsRetabledTo old.bridges table choices old.solver old.map old.objective_at model start r new.bridges
      new.solver new.map new.objective_at

  module _ (n : ℕ) (new : Owned) (done : told_by (Ok n) new) where
    pub is_bridged : (count : ℕ) → count ≡ min n (2 ^ 64 - 1)
        → IsBridgedBy old old.bridges.table model (Ok count) new
    is_bridged count is =
        (stands_in new model done.holds, done.setting, (n, done.counted, is))

    pub is_few : (count : ℕ) → count ≡ min n (2 ^ 64 - 1) → new.solver.leaves.calls < 2 ^ 64
        → ChangesFew old count new
    is_few count is fits = record {
      rises = done.rises;
      calls = let most = done.calls in omega (arith, most, is, fits);
      variables = done.variables;
      rows = done.rows;
    }

    pub is_retabled : IsRetabledFrom old table choices model start new
    is_retabled = record {
      stands = stands_in new model done.holds;
      inner = done.inner.0;
      inner_is = done.inner.1;
      turns = done.inner.2;
    }

    pub stays_true : supports_native old.bridges.table ≡ true
        → (supports_native new.bridges.table ≡ true) × NamesEach new.map new.solver.leaves
    stays_true native = (
      subst (λ t. supports_native t ≡ true)
          (sym (ap (λ (s : Setting). s.table) done.setting)) native,
      done.holds.named,
    )

  module _ (fault : PushFault) (new : Owned) (other : fault ≡ Memory → ⊥)
      (done : told_by (Err fault) new) where
    pub is_refused : IsBridgedBy old old.bridges.table model (Err fault) new
    is_refused = by fault other done
      where
        by : (f : PushFault) → (f ≡ Memory → ⊥) → told_by (Err f) new
            → IsBridgedBy old old.bridges.table model (Err f) new
        by (Unsupported kind) o h = (
          h.0,
          record {
            means = h.1.means;
            solver = h.1.solver_is;
            map = h.1.places_are;
            objective_at = h.1.objective_is;
          },
        )
        by (Overflow at) o h = (
          h.0,
          record {
            means = h.1.means;
            solver = h.1.solver_is;
            map = h.1.places_are;
            objective_at = h.1.objective_is;
          },
        )
        by Memory o h = absurd (o refl)

    pub is_planned : Planned (setting_in old) model (Err fault)
    is_planned = by fault other done
      where
        by : (f : PushFault) → (f ≡ Memory → ⊥) → told_by (Err f) new
            → Planned (setting_in old) model (Err f)
        by (Unsupported kind) o h = h.0
        by (Overflow at) o h = h.0
        by Memory o h = absurd (o refl)

    turned : IsTurnedTo old.bridges table choices old.solver old.map old.objective_at model start
        new.bridges new.solver new.map new.objective_at
    turned = by fault other done
      where
        by : (f : PushFault) → (f ≡ Memory → ⊥) → told_by (Err f) new
            → IsTurnedTo old.bridges table choices old.solver old.map old.objective_at model start
            new.bridges new.solver new.map new.objective_at
        by (Unsupported kind) o h = h.1
        by (Overflow at) o h = h.1
        by Memory o h = absurd (o refl)

    pub refused_true : supports_native old.bridges.table ≡ true → NamesEach old.map old.solver.leaves
        → (supports_native new.bridges.table ≡ true) × NamesEach new.map new.solver.leaves
    refused_true native named = (
      subst (λ t. supports_native t ≡ true)
          (sym (ap (λ (m : Means). m.setting.table) turned.means)) native,
      subst (λ (p : AddressMap × StoredLeaves). NamesEach p.0 p.1.leaves)
          (λ i. (sym turned.places_are i, sym turned.solver_is i)) named,
    )

  pub memory_keeps : (fault : PushFault) → fault ≡ Memory → (new : Owned)
      → told_by (Err fault) new → setting_of new.bridges ≡ setting_of old.bridges
  memory_keeps fault is new done = subst (λ f. told_by (Err f) new) is done

-- ---- another table is set

module _ (old first : Owned) (model : ModelValue) (table : Table) (set : IsSet old first table)
    (sound : AreSound (means_of old.bridges)) (also : AreSound (means_of first.bridges))
    (once : occur_once (families_of old.bridges.states) ≡ true)
    (native : supports_native old.bridges.table ≡ true) (natives : supports_native table ≡ true)
    (stands : IsBridgingOf old model) (choices : List Choice)
    (told : (kind : Kind)
    → choice_in choices (kind_number kind) ≡ (means_of old.bridges).choice (kind_number kind)) where
  -- what was held, with the states that there were
  abbrev Held : Type 0
  Held = List BridgeState × StoredLeaves × AddressMap × Address

  abbrev was : Held
  was = (old.bridges.states, old.solver, old.map, old.objective_at)

  abbrev is_now : Held
  is_now = (first.bridges.states, first.solver, first.map, first.objective_at)

  same : is_now ≡ was
  same = λ i. (set.states i, set.solver i, set.map i, set.objective_at i)

  abbrev lazy_of : Held → Owned
  lazy_of h = record {
    bridges = record first.bridges { states = h.0 };
    solver = h.1;
    map = h.2;
    objective_at = h.3;
  }

  abbrev Starts : Held → Type 0
  Starts h = IsTableStart (lazy_of h).bridges old.bridges.table choices h.1 h.2 h.3 model

  start_was : Starts was
  start_was = record {
    choice = (means_of old.bridges).choice;
    holds = record {
      sound = subst (λ ss. AreSound (means_of (record first.bridges { states = ss }))) set.states also;
      native = supported (setting_by first.bridges.table old.bridges.states)
          (ap supports_native set.table_is ∙ natives);
      once = once;
      costly = sound.costly;
      lawful = sound.lawful;
      chosen = sound.chosen;
      native_before = supported (setting_of old.bridges) native;
      held = held_in old model stands;
    };
    told = told;
  }

  pub start_now : IsTableStart first.bridges old.bridges.table choices first.solver first.map
      first.objective_at model
  start_now = subst Starts (sym same) start_was

  pub touched_on : (new : Owned)
      → ((t : Table) → (start : IsTableStart first.bridges t choices first.solver first.map
      first.objective_at model) → IsRetabledFrom first t choices model start new)
      → IsRetabledByFew old model new
  unfolding start_was
  touched_on new each =
      let from = subst (λ h. (start : Starts h)
      → IsRetabledFrom (lazy_of h) old.bridges.table choices model start new) same
      (λ start. each old.bridges.table start) start_was in
      record {
        stood = stands;
        stands = from.stands;
        inner = from.inner;
        inner_is = from.inner_is;
        turns = from.turns;
      }
