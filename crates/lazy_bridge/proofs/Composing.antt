-- A whole edit, by its steps.
use Rattle.std.specs.Prelude.{◌≡◌, ◌≤◌, ◌<◌, ◌+◌, ◌-◌, ◌^◌, ℕ, true, List, IsErrAnd, Result, Ok, Err, length, min, refl}
use Rattle.std.proofs.Common.{arith, subst, sym, ap, ◌∙◌}
use Rattle.address_map.specs.AddressMap.{AddressMap}
use Rattle.aff_core.specs.Address.{Address}
use Rattle.bridge_set.specs.Bridges.{Bridges, families_of, means_of, occur_once, setting_of}
use Rattle.bridge_set.specs.Turns.{turns_of}
use Rattle.bridge_plan.specs.Means.{AreSound, Means}
use Rattle.bridge_plan.specs.declared.plan.Plan.{Plan}
use Rattle.push_laws.specs.DifferingLaws.{chooses_itself, differing_touched, separated}
use Rattle.fresh_bridging.specs.Entries.{Entry}
use Rattle.fresh_bridging.specs.TheRules.{Setting}
use Rattle.lazy_bridge.specs.Few.{CanPush, ChangesFew, IsPushedByFew}
use Rattle.lazy_bridge.specs.Native.{supports_native}
use Rattle.lazy_bridge.specs.NativeLaws.{supported}
use Rattle.lazy_bridge.specs.Owned.{IsBridgingOf, Owned, setting_in}
use Rattle.lazy_bridge.specs.Pushed.{IsBridgedBy}
use Rattle.lazy_bridge.specs.Steps.{IsChangedOf, IsEditOf, IsHeldBy, IsPlannedOf, IsPushedTo, IsRefusedBy, IsStart, IsTurned, Parts, parts_of}
use Rattle.leaf_update.specs.Named.{NamesEach}
use Rattle.local_laws.specs.Unlisted.{entries_of}
use Rattle.model_bridging.specs.Planned.{Planned}
use Rattle.model_bridging.specs.declared.fault.PushFault.{PushFault}
use Rattle.model_bridging.specs.declared.fault.PushFault.TheVariants.{Unsupported, Overflow, Memory}
use Rattle.push_laws.specs.Edits.{AttachedEdit, HoldsBridging}
use Rattle.solver_store.specs.SolverModel.{StoredLeaves}
use Rattle.touched_items.specs.DifferenceLaws.{HasDifferences}
use Rattle.touched_items.specs.declared.differing.Differing.{Differing}
use Rattle.user_model.specs.Model.{ModelValue}
use Rattle.user_model.specs.declared.undo.Undo.{Undo}

-- a fault that is handed on
pub handed_on : (old : Parts) (model : ModelValue) (undos : List Undo) (after : ModelValue)
    (start : IsStart old.bridges old.solver old.places old.objective_at model undos after)
    (r : Result ℕ PushFault) (f : PushFault) (new : Parts) → IsErrAnd r (λ x. x ≡ f)
    → IsPushedTo old model undos after start (Err f) new
    → IsPushedTo old model undos after start r new
handed_on old model undos after start (Ok n) f new is h = absurd is
handed_on old model undos after start (Err g) f new is h =
    subst (λ x. IsPushedTo old model undos after start (Err x) new) (sym is) h

module _ (bridges : Bridges) (solver : StoredLeaves) (places : AddressMap) (objective_at : Address)
    (model : ModelValue) (undos : List Undo) (after : ModelValue)
    (start : IsStart bridges solver places objective_at model undos after) where
  -- where nothing but turns was changed
  module _ (reads : ℕ) (later : Bridges) (reads_later : ℕ) (same : means_of later ≡ means_of bridges)
    where
      abbrev told : PushFault → Type 0
      told f =
          IsPushedTo (parts_of bridges solver places objective_at reads) model undos after start (Err f)
          (parts_of later solver places objective_at reads_later)

      pub memory : told Memory
      memory = ap (λ (m : Means). m.setting) same

  module _ (d : Differing) (differs : HasDifferences model after d) where
    abbrev pub edit : AttachedEdit
    edit = record {
      bridges = bridges;
      table = bridges.table;
      solver = solver.leaves;
      places = places;
      objective_at = objective_at;
      model = model;
      after = after;
      sound = start.sound;
      native = start.native;
      once = start.once;
      costly = start.sound.costly;
      lawful = start.sound.lawful;
      native_before = start.native;
      held = start.held;
      valid = start.valid;
      d = d;
      separates = separated model after start.held.valid start.valid d differs;
      alike = λ at out. chooses_itself start.held.bridging start.sound.costly (means_of bridges).choice
          start.sound.chosen at;
      touched = λ new. differing_touched start.held.bridging new d differs;
    }

    pub of_edit : (read : ModelValue) → read ≡ after → IsEditOf edit bridges places read d
    of_edit read same = record {
      means = refl;
      mapped = refl;
      model = same;
      differing = refl;
    }

    pub held_by : (later : Bridges) → means_of later ≡ means_of bridges
        → IsHeldBy edit later solver places objective_at d
    held_by later same = record {
      means = same;
      leaves = refl;
      mapped = refl;
      objective = refl;
      differing = refl;
    }

    pub refused : (reads : ℕ) (later : Bridges) (reads_later : ℕ) (f : PushFault)
        → means_of later ≡ means_of bridges → IsRefusedBy edit f
        → IsPushedTo (parts_of bridges solver places objective_at reads) model undos after start
        (Err f) (parts_of later solver places objective_at reads_later)
    refused reads later reads_later (Unsupported kind) same h = (
      h,
      record {
        means = same;
        solver = refl;
        places = refl;
        objective_at = refl;
      },
    )
    refused reads later reads_later (Overflow at) same h = (
      h,
      record {
        means = same;
        solver = refl;
        places = refl;
        objective_at = refl;
      },
    )
    refused reads later reads_later Memory same h = ap (λ (m : Means). m.setting) same

    pub pushed : (standing : List Entry) (found : List Address) (plan : Plan)
        (made : IsPlannedOf edit standing found plan) (later last : Bridges) (solver_last : StoredLeaves)
        (places_last : AddressMap) (objective_last : Address) (n : ℕ)
        (reads reads_listed reads_last : ℕ)
        → means_of later ≡ means_of bridges → setting_of last ≡ setting_of later
        → turns_of later.states ≤ turns_of bridges.states + length plan.nodes.items
        → reads_listed ≤ reads + entries_of undos → reads_last ≤ reads_listed + length found
        → IsChangedOf edit made.step later solver places objective_at n last solver_last
        places_last objective_last
        → IsPushedTo (parts_of bridges solver places objective_at reads) model undos after start
        (Ok n) (parts_of last solver_last places_last objective_last reads_last)
    pushed standing found plan made later last solver_last places_last objective_last n reads
        reads_listed reads_last same setting turns listed searched changed =
        let done = changed.done (turns_of bridges.states)
        (subst (λ ns. turns_of later.states ≤ turns_of bridges.states + length ns) (sym made.nodes)
        turns) in
        record {
          holds = done.holds;
          setting = setting ∙ ap (λ (m : Means). m.setting) same;
          touched = length made.step.addresses;
          touched_are = done.touched;
          inner = done.inner;
          reads =
              let all : length made.step.addresses ≡ length found = ap length made.addresses in
              omega (arith, listed, searched, all);
          counted = changed.counted;
          rises = changed.rises;
          calls = changed.calls;
          variables = changed.variables;
          rows = changed.rows;
        }

-- ---- of a lazy bridging

-- what stands in it, by its parts, and back
abbrev pub held_in : (lazy : Owned) (model : ModelValue) → IsBridgingOf lazy model
    → HoldsBridging (setting_of lazy.bridges) lazy.bridges.states lazy.solver.leaves lazy.map
    lazy.objective_at model
held_in lazy model h = record {
  valid = h.valid;
  bridging = h.bridging;
  made = h.made;
  leaves = h.leaves;
  named = h.named;
  kept = h.kept;
  exprs = h.exprs;
  noted = h.noted;
  marks = h.marks;
}

abbrev pub stands_in : (lazy : Owned) (model : ModelValue)
    → HoldsBridging (setting_of lazy.bridges) lazy.bridges.states lazy.solver.leaves lazy.map
    lazy.objective_at model
    → IsBridgingOf lazy model
stands_in lazy model h = record {
  valid = h.valid;
  bridging = h.bridging;
  made = h.made;
  leaves = h.leaves;
  named = h.named;
  kept = h.kept;
  exprs = h.exprs;
  noted = h.noted;
  marks = h.marks;
}

module _ (old : Owned) (undos : List Undo) (after : ModelValue) (sound : AreSound (means_of old.bridges))
    (once : occur_once (families_of old.bridges.states) ≡ true)
    (native : supports_native old.bridges.table ≡ true) (can : CanPush old undos after) where
  abbrev pub started : IsStart old.bridges old.solver old.map old.objective_at can.model undos after
  started = record {
    sound = sound;
    once = once;
    native = supported (setting_of old.bridges) native;
    held = held_in old can.model can.stands;
    back = can.back;
    valid = can.valid;
  }

  abbrev told_by : Result ℕ PushFault → ℕ → Owned → ℕ → Type 0
  told_by r reads new reads_after =
      IsPushedTo (parts_of old.bridges old.solver old.map old.objective_at reads) can.model undos after
      started r (parts_of new.bridges new.solver new.map new.objective_at reads_after)

  module _ (n reads : ℕ) (new : Owned) (reads_after : ℕ)
      (pushed : told_by (Ok n) reads new reads_after) where
    pub is_bridged : (count : ℕ) → count ≡ min n (2 ^ 64 - 1)
        → IsBridgedBy old old.bridges.table after (Ok count) new
    is_bridged count is =
        (stands_in new after pushed.holds, pushed.setting, (n, pushed.counted, is))

    pub is_few : (count : ℕ) → count ≡ min n (2 ^ 64 - 1) → new.solver.leaves.calls < 2 ^ 64
        → ChangesFew old count new
    is_few count is fits = record {
      rises = pushed.rises;
      calls = let most = pushed.calls in omega (arith, most, is, fits);
      variables = pushed.variables;
      rows = pushed.rows;
    }

    pub is_touched : IsPushedByFew old undos after reads new reads_after
    is_touched = record {
      model = can.model;
      stood = can.stands;
      back = can.back;
      stands = stands_in new after pushed.holds;
      inner = pushed.inner.0;
      inner_is = pushed.inner.1;
      turns = pushed.inner.2;
      touched = pushed.touched;
      touched_is = pushed.touched_are;
      few_reads = let few = pushed.reads in omega (arith, few);
    }

  module _ (fault : PushFault) (reads : ℕ) (new : Owned) (reads_after : ℕ)
      (other : fault ≡ Memory → ⊥) (pushed : told_by (Err fault) reads new reads_after) where
    pub is_refused : IsBridgedBy old old.bridges.table after (Err fault) new
    is_refused = by fault other pushed
      where
        by : (f : PushFault) → (f ≡ Memory → ⊥) → told_by (Err f) reads new reads_after
            → IsBridgedBy old old.bridges.table after (Err f) new
        by (Unsupported kind) o h = (
          h.0,
          record {
            means = h.1.means;
            solver = h.1.solver;
            map = h.1.places;
            objective_at = h.1.objective_at;
          },
        )
        by (Overflow at) o h = (
          h.0,
          record {
            means = h.1.means;
            solver = h.1.solver;
            map = h.1.places;
            objective_at = h.1.objective_at;
          },
        )
        by Memory o h = absurd (o refl)

    pub is_planned : Planned (setting_in old) after (Err fault)
    is_planned = by fault other pushed
      where
        by : (f : PushFault) → (f ≡ Memory → ⊥) → told_by (Err f) reads new reads_after
            → Planned (setting_in old) after (Err f)
        by (Unsupported kind) o h = h.0
        by (Overflow at) o h = h.0
        by Memory o h = absurd (o refl)

  -- the tables and what the map names stay
  module _ (fault : PushFault) (reads : ℕ) (new : Owned) (reads_after : ℕ)
      (other : fault ≡ Memory → ⊥) (pushed : told_by (Err fault) reads new reads_after) where
    turned : IsTurned (parts_of old.bridges old.solver old.map old.objective_at reads)
        (parts_of new.bridges new.solver new.map new.objective_at reads_after)
    turned = by fault other pushed
      where
        by : (f : PushFault) → (f ≡ Memory → ⊥) → told_by (Err f) reads new reads_after
            → IsTurned (parts_of old.bridges old.solver old.map old.objective_at reads)
            (parts_of new.bridges new.solver new.map new.objective_at reads_after)
        by (Unsupported kind) o h = h.1
        by (Overflow at) o h = h.1
        by Memory o h = absurd (o refl)

    pub is_kept_true : NamesEach old.map old.solver.leaves
        → (supports_native new.bridges.table ≡ true) × NamesEach new.map new.solver.leaves
    is_kept_true named = (
      subst (λ t. supports_native t ≡ true)
          (sym (ap (λ (m : Means). m.setting.table) turned.means)) native,
      subst (λ (p : AddressMap × StoredLeaves). NamesEach p.0 p.1.leaves)
          (λ i. (sym turned.places i, sym turned.solver i)) named,
    )

  pub is_pushed_true : (n reads : ℕ) (new : Owned) (reads_after : ℕ)
      → told_by (Ok n) reads new reads_after
      → (supports_native new.bridges.table ≡ true) × NamesEach new.map new.solver.leaves
  is_pushed_true n reads new reads_after pushed = (
    subst (λ t. supports_native t ≡ true)
        (sym (ap (λ (s : Setting). s.table) pushed.setting)) native,
    pushed.holds.named,
  )

  pub memory_setting : (fault : PushFault) → fault ≡ Memory → (reads : ℕ) (new : Owned)
      (reads_after : ℕ) → told_by (Err fault) reads new reads_after
      → setting_of new.bridges ≡ setting_of old.bridges
  memory_setting fault is reads new reads_after pushed =
      subst (λ f. told_by (Err f) reads new reads_after) is pushed

-- memory ran out on the way, and all was freed
pub same_setting : (old mid new : Bridges) → setting_of mid ≡ setting_of old
    → families_of new.states ≡ families_of mid.states → new.table ≡ mid.table
    → setting_of new ≡ setting_of old
same_setting old mid new e families table =
    (λ i. record { table = table i; families = families i }) ∙ e
