-- What an edit, another table and a solver leave, by what the bridging answers.
use Rattle.std.specs.Prelude.{◌≡◌, ◌≢◌, ℕ, Bool, true, false, List, [], flat_map, Option, Some, None, Result, Ok, Err, IsErrAnd, refl}
use Rattle.std.proofs.Common.{ap, sym, subst, ◌∙◌}
use Rattle.aff_core.specs.Address.{Address, address_cmp, address_total}
use Rattle.bridge_set.specs.Bridges.{setting_by}
use Rattle.fresh_bridging.specs.FreshBridging.{FreshBridging, is_made, leaves_of}
use Rattle.fresh_bridging.specs.TheRules.{Setting}
use Rattle.item_core.specs.declared.table.Table.{Table}
use Rattle.lazy_bridge.specs.Owned.{HoldsNothing, IsBridgingOf, Owned, leaf_model_in, setting_in}
use Rattle.lazy_bridge.specs.Pushed.{Counts, IsBridgedBy}
use Rattle.leaf_model.specs.LeafModel.{LeafModel, no_leaves}
use Rattle.leaf_model.specs.ReadThrough.{by_address, placed, read_objective, read_row}
use Rattle.map_laws.specs.MadeLaws.{entries_empty, from_sorted-entries}
use Rattle.address_map.specs.Places.{Indices}
use Rattle.solver_store.specs.SolverModel.{Leaves}
use Rattle.solver_store.specs.declared.leaf.LeafObjective.{LeafObjective}
use Rattle.std.specs.FinMap as finite
use Rattle.std.specs.FinMap.{FinMap}
use Rattle.std.specs.Ordering.{nat_cmp}
use Rattle.std.specs.Option.{option_map_or}
use Rattle.model_bridging.specs.declared.fault.PushFault.{PushFault}
use Rattle.model_bridging.specs.declared.fault.PushFault.TheVariants as push
use Rattle.model_store.specs.Store.{StoredModel}
use Rattle.report_core.specs.declared.refused.Place.{Place}
use Rattle.user_model.specs.Edited.{edited}
use Rattle.user_model.specs.Model.{ModelValue}
use Rattle.user_model.specs.Refusals.{first_refusal}
use Rattle.user_model.specs.declared.edit.Edit.{Edit}
use Rattle.cache_layer.specs.Answers.{Becomes, IsAttached, IsEdited}
use Rattle.cache_layer.specs.Bridging.{IsBridgedInNames, IsFaultOf, IsPlaceToldAs, IsToldAs, state_by, stays}
use Rattle.cache_layer.specs.Cached.{Cached, IsCacheInStep, StandsAttached, cached, state_of}
use Rattle.cache_layer.specs.Faults.{attach_fault, bridge_fault}
use Rattle.cache_layer.specs.CacheState.{Bridging, CacheState, ChangesLeaves, leaves}
use Rattle.cache_layer.specs.declared.fault.AttachFault.{AttachFault}
use Rattle.cache_layer.specs.declared.fault.AttachFault.TheVariants as attach
use Rattle.cache_layer.specs.declared.fault.BridgeFault.{BridgeFault}
use Rattle.cache_layer.specs.declared.fault.BridgeFault.TheVariants as bridge
use Rattle.cache_layer.specs.declared.fault.EditFault.{EditFault}
use Rattle.cache_layer.specs.declared.fault.EditFault.TheVariants as edit
use Rattle.cache_layer.proofs.Standing.{nothing_tried, setting_tried, still_bridging}

-- ---- a fault in the user's names

pub fault_of : (old mid : Owned) (table : Table) (model : ModelValue) (fault : PushFault)
    → IsBridgedBy old table model (Err fault) mid → IsFaultOf model fault
fault_of old mid table model (push.Unsupported kind) h = tt
fault_of old mid table model (push.Overflow at) h =
    (setting_by table old.bridges.states, h.0.0, h.0.1)
fault_of old mid table model push.Memory h = tt

along : (old mid new : Owned) (table : Table) (model : ModelValue) (fault : PushFault)
    → IsBridgedBy old table model (Err fault) mid → new ≡ mid
    → IsBridgedBy old table model (Err fault) new
along old mid new table model fault h e =
    subst (IsBridgedBy old table model (Err fault)) (sym e) h

place_told : (old mid new : Owned) (table : Table) (model : ModelValue) (at : Address)
    (told : BridgeFault) → IsBridgedBy old table model (Err (push.Overflow at)) mid
    → IsPlaceToldAs model mid at told new → IsBridgedInNames old table model (Err told) new
place_told old mid new table model at (bridge.Unsupported kind) h t = absurd t
place_told old mid new table model at (bridge.Overflow place) h t =
    let is = along old mid new table model (push.Overflow at) h t.1 in
    (record { at = at; bridging = is.0.0; unfit = is.0.1; told = t.0 }, is.1)
place_told old mid new table model at bridge.Memory h t =
    (t.0, t.1 ∙ setting_tried old mid h.1)

pub told_as : (old mid new : Owned) (table : Table) (model : ModelValue) (fault : PushFault)
    (told : BridgeFault) → IsBridgedBy old table model (Err fault) mid
    → IsToldAs model mid fault told new → IsBridgedInNames old table model (Err told) new
told_as old mid new table model (push.Unsupported kind) told h t =
    subst (λ f. IsBridgedInNames old table model (Err f) new) (sym t.0)
    (along old mid new table model (push.Unsupported kind) h t.1)
told_as old mid new table model (push.Overflow at) told h t =
    place_told old mid new table model at told h t
told_as old mid new table model push.Memory told h t =
    subst (λ f. IsBridgedInNames old table model (Err f) new) (sym t.0)
    (along old mid new table model push.Memory h t.1)

-- ---- what is never told

abbrev NeverAt : Result ℕ PushFault → Type 0
NeverAt r = (at : Address) → r ≢ Err (push.Overflow at)

abbrev pub NeverOverflows : Result ℕ BridgeFault → Type 0
NeverOverflows r = (place : Place) → r ≢ Err (bridge.Overflow place)

-- where no address is, no place is
pub never_told : (model : ModelValue) (mid new : Owned) (fault : PushFault) (told : BridgeFault)
    → IsToldAs model mid fault told new → NeverAt (Err fault) → NeverOverflows (Err told)
never_told model mid new (push.Unsupported kind) told h never place e =
    let is : told ≡ bridge.Unsupported kind = h.0 in cc
never_told model mid new (push.Overflow at) told h never place e = absurd (never at refl)
never_told model mid new push.Memory told h never place e =
    let is : told ≡ bridge.Memory = h.0 in cc

pub never_given : (fault : BridgeFault) (given : EditFault) (r : Result (Option ℕ) EditFault)
    → r ≡ Err given → given ≡ bridge_fault fault → NeverOverflows (Err fault) → (place : Place)
    → r ≢ Err (edit.Overflow place)
never_given (bridge.Unsupported kind) given r same is never place e = cc
never_given (bridge.Overflow at) given r same is never place e = absurd (never at refl)
never_given bridge.Memory given r same is never place e = cc

pub never_attached : (fault : BridgeFault) (r : Result ℕ AttachFault)
    → IsErrAnd r (λ e. e ≡ attach_fault fault) → NeverOverflows (Err fault) → (place : Place)
    → r ≢ Err (attach.Overflow place)
never_attached fault (Ok n) h never place e = absurd h
never_attached (bridge.Unsupported kind) (Err given) h never place e = cc
never_attached (bridge.Overflow at) (Err given) h never place e = absurd (never at refl)
never_attached bridge.Memory (Err given) h never place e = cc

-- ---- the fresh bridging that stands

abbrev IsBridging : ModelValue → LeafModel → Setting → Type 0
IsBridging model leaves setting =
    (bridging : FreshBridging setting model) × (is_made bridging ≡ true)
    × (leaves ≡ leaves_of bridging)

-- by the setting of a state, which is that of the bridging
standing : (lazy : Owned) (s : CacheState) → IsBridgingOf lazy s.model → setting_in lazy ≡ s.setting
    → (b : Bridging s) × (leaf_model_in lazy ≡ leaves b)
standing lazy s h e =
    let along = subst (IsBridging s.model (leaf_model_in lazy)) e (h.bridging, h.made, h.leaves) in
    (record { bridging = along.0; made = along.1 }, along.2)

changed : (old new : Owned) (before after : CacheState) (n : ℕ) → IsBridgingOf old before.model
    → setting_in old ≡ before.setting → IsBridgingOf new after.model
    → setting_in new ≡ after.setting → Counts (leaf_model_in old) (leaf_model_in new) n
    → ChangesLeaves before after n
changed old new before after n stands is stands_after is_after counts =
    let b = standing old before stands is in
    let a = standing new after stands_after is_after in
    record {
      before = b.0;
      after = a.0;
      counts =
          subst (λ m. Counts m (leaves a.0) n) b.1
          (subst (λ m. Counts (leaf_model_in old) m n) a.1 counts);
    }

-- ---- another table, or another model

abbrev state_with : ModelValue → Setting → Bool → CacheState
state_with model setting attached =
    record { model = model; setting = setting; attached = attached }

same_state : (user new_user : StoredModel) (old new : Owned) (attached : Bool) → new_user ≡ user
    → setting_in new ≡ setting_in old
    → state_of (cached new_user new attached) ≡ state_of (cached user old attached)
same_state user new_user old new attached e s =
    ap (λ (u : StoredModel). state_with u.model (setting_in new) attached) e
    ∙ ap (λ t. state_with user.model t attached) s

-- whatever a bridging refuses leaves the model and the table as they were
pub unbridged : (user new_user : StoredModel) (old new : Owned) (table : Table) (model : ModelValue)
    (fault : BridgeFault) → new_user ≡ user → IsBridgedInNames old table model (Err fault) new
    → Becomes (state_of (cached user old true)) (state_by old table model)
    (Err (bridge_fault fault))
    (state_of (cached new_user new (stays (Err (bridge_fault fault)))))
unbridged user new_user old new table model (bridge.Unsupported kind) e h =
    (refl, h.0, same_state user new_user old new true e (setting_tried old new h.1))
unbridged user new_user old new table model (bridge.Overflow place) e h =
    (refl, h.0, same_state user new_user old new true e (setting_tried old new h.1))
unbridged user new_user old new table model bridge.Memory e h =
    same_state user new_user old new false e h.1

pub in_step_still : (user new_user : StoredModel) (old new : Owned) (table : Table) (model : ModelValue)
    (fault : BridgeFault) → new_user ≡ user → IsBridgedInNames old table model (Err fault) new
    → IsBridgingOf old user.model → user.parked ≡ []
    → IsCacheInStep (cached new_user new (stays (Err (bridge_fault fault))))
in_step_still user new_user old new table model fault e h stands settled = record {
  stands =
      subst (λ (s : StoredModel). StandsAttached (stays (Err (bridge_fault fault))) new s.model) (sym e)
      (by fault h);
  settled = ap (λ (s : StoredModel). s.parked) e ∙ settled;
}
  where
    by : (fault : BridgeFault) → IsBridgedInNames old table model (Err fault) new
        → StandsAttached (stays (Err (bridge_fault fault))) new user.model
    by (bridge.Unsupported kind) h = still_bridging old new user.model h.1 stands
    by (bridge.Overflow place) h = still_bridging old new user.model h.1 stands
    by bridge.Memory h = h.0

pub bridged : (user new_user : StoredModel) (old new : Owned) (table : Table) (model : ModelValue)
    (n : ℕ) → new_user.model ≡ model → IsBridgingOf old user.model
    → IsBridgedBy old table model (Ok n) new
    → Becomes (state_of (cached user old true)) (state_by old table model) (Ok (Some n))
    (state_of (cached new_user new true))
bridged user new_user old new table model n e stands h = (
  refl,
  changed old new (state_of (cached user old true)) (state_by old table model) n stands refl h.0
      h.1 h.2,
  ap (λ m. state_with m (setting_in new) true) e ∙ ap (λ s. state_with model s true) h.1,
)

-- ---- an edit

pub edit_unbridged : (user new_user : StoredModel) (old new : Owned) (edit : Edit) (model : ModelValue)
    (fault : BridgeFault) → first_refusal user.model edit ≡ None → model ≡ edited user.model edit
    → new_user ≡ user → IsBridgedInNames old old.bridges.table model (Err fault) new
    → IsEdited (state_of (cached user old true)) edit (Err (bridge_fault fault))
    (state_of (cached new_user new (stays (Err (bridge_fault fault)))))
edit_unbridged user new_user old new edit model fault accepted after e h =
    by fault
    (unbridged user new_user old new old.bridges.table (edited user.model edit) fault e
    (subst (λ m. IsBridgedInNames old old.bridges.table m (Err fault) new) after h))
  where
    by : (fault : BridgeFault)
        → Becomes (state_of (cached user old true))
        (state_by old old.bridges.table (edited user.model edit)) (Err (bridge_fault fault))
        (state_of (cached new_user new (stays (Err (bridge_fault fault)))))
        → IsEdited (state_of (cached user old true)) edit (Err (bridge_fault fault))
        (state_of (cached new_user new (stays (Err (bridge_fault fault)))))
    by (bridge.Unsupported kind) h = (accepted, h)
    by (bridge.Overflow place) h = (accepted, h)
    by bridge.Memory h = h

pub edit_bridged : (user new_user : StoredModel) (old new : Owned) (edit : Edit) (model : ModelValue)
    (n : ℕ) → first_refusal user.model edit ≡ None → model ≡ edited user.model edit
    → new_user.model ≡ model → IsBridgingOf old user.model
    → IsBridgedBy old old.bridges.table model (Ok n) new
    → IsEdited (state_of (cached user old true)) edit (Ok (Some n))
    (state_of (cached new_user new true))
edit_bridged user new_user old new edit model n accepted after e stands h = (
  accepted,
  bridged user new_user old new old.bridges.table (edited user.model edit) n (e ∙ after) stands
      (subst (λ m. IsBridgedBy old old.bridges.table m (Ok n) new) after h),
)

-- ---- a solver attached

-- what the maps and the solver's model read as
abbrev read_by : Owned → Indices → Indices → Option LeafObjective → LeafModel
read_by lazy vars rows objective = record {
  variables = by_address (λ var. var) vars lazy.solver.leaves.vars;
  rows = by_address (read_row vars) rows lazy.solver.leaves.rows;
  objective =
      option_map_or (λ o. finite.insert finite.empty lazy.objective_at (read_objective vars o))
      objective finite.empty;
}

nothing_read : {X Y : Type 0} (read : X → Y) (leaves : FinMap nat_cmp X)
    → by_address read finite.empty leaves ≡ finite.empty
nothing_read read leaves =
    ap
    (λ (es : List (Address × ℕ)).
    finite.from_sorted {R = address_cmp} (flat_map (placed read leaves) es))
    (entries_empty address_cmp)
    ∙ (ap (finite.from_sorted {R = address_cmp}) (sym (entries_empty address_cmp))
    ∙ from_sorted-entries address_total finite.empty)

empty_leaves : (lazy : Owned) → HoldsNothing lazy → leaf_model_in lazy ≡ no_leaves
empty_leaves lazy h =
    let o = lazy.solver.leaves.objective in
    ap (λ v. read_by lazy v lazy.map.rows.indices o) h.vars
    ∙ (ap (λ r. read_by lazy finite.empty r o) h.rows
    ∙ (ap (read_by lazy finite.empty finite.empty)
    (ap (λ (l : Leaves). l.objective) h.leaves)
    ∙ λ i. record {
      variables = nothing_read (λ var. var) lazy.solver.leaves.vars i;
      rows = nothing_read (read_row finite.empty) lazy.solver.leaves.rows i;
      objective = finite.empty;
    }))

pub attached_to : (user : StoredModel) (old new : Owned) (n : ℕ) → HoldsNothing old
    → IsBridgedBy old old.bridges.table user.model (Ok n) new
    → IsAttached (state_of (cached user old false)) (Ok n) (state_of (cached user new true))
attached_to user old new n nothing h =
    let a = standing new (state_of (cached user old false)) h.0 h.1 in (
      refl,
      record {
        bridging = a.0;
        counts =
            subst (λ m. Counts m (leaves a.0) n) (empty_leaves old nothing)
            (subst (λ m. Counts (leaf_model_in old) m n) a.1 h.2);
      },
      ap (λ s. state_with user.model s true) h.1,
    )

pub unattached : (user : StoredModel) (old new : Owned) (fault : BridgeFault)
    → IsBridgedInNames old old.bridges.table user.model (Err fault) new
    → IsAttached (state_of (cached user old false)) (Err (attach_fault fault))
    (state_of (cached user new false))
unattached user old new (bridge.Unsupported kind) h =
    (refl, h.0, same_state user user old new false refl (setting_tried old new h.1))
unattached user old new (bridge.Overflow place) h = (
  refl,
  record { at = h.0.at; bridging = h.0.bridging; unfit = h.0.unfit; told = h.0.told },
  same_state user user old new false refl (setting_tried old new h.1),
)
unattached user old new bridge.Memory h = (refl, same_state user user old new false refl h.1)

pub still_detached : (user : StoredModel) (old new : Owned) (fault : BridgeFault)
    → IsBridgedInNames old old.bridges.table user.model (Err fault) new → HoldsNothing old
    → HoldsNothing new
still_detached user old new (bridge.Unsupported kind) h nothing = nothing_tried old new h.1 nothing
still_detached user old new (bridge.Overflow place) h nothing = nothing_tried old new h.1 nothing
still_detached user old new bridge.Memory h nothing = h.0

-- ---- by the answer that is given

pub table_answer : (user new_user : StoredModel) (old new : Owned) (table : Table) (model : ModelValue)
    (fault : BridgeFault) (given : EditFault) → given ≡ bridge_fault fault → new_user ≡ user
    → IsBridgedInNames old table model (Err fault) new
    → Becomes (state_of (cached user old true)) (state_by old table model) (Err given)
    (state_of (cached new_user new (stays (Err given))))
table_answer user new_user old new table model fault given is e h =
    subst (λ r. Becomes (state_of (cached user old true)) (state_by old table model) (Err r)
    (state_of (cached new_user new (stays (Err r))))) (sym is)
    (unbridged user new_user old new table model fault e h)

pub edit_answer : (user new_user : StoredModel) (old new : Owned) (edit : Edit) (model : ModelValue)
    (fault : BridgeFault) (given : EditFault) → given ≡ bridge_fault fault
    → first_refusal user.model edit ≡ None → model ≡ edited user.model edit → new_user ≡ user
    → IsBridgedInNames old old.bridges.table model (Err fault) new
    → IsEdited (state_of (cached user old true)) edit (Err given)
    (state_of (cached new_user new (stays (Err given))))
edit_answer user new_user old new edit model fault given is accepted after e h =
    subst (λ r. IsEdited (state_of (cached user old true)) edit (Err r)
    (state_of (cached new_user new (stays (Err r))))) (sym is)
    (edit_unbridged user new_user old new edit model fault accepted after e h)

pub step_answer : (user new_user : StoredModel) (old new : Owned) (table : Table) (model : ModelValue)
    (fault : BridgeFault) (given : EditFault) → given ≡ bridge_fault fault → new_user ≡ user
    → IsBridgedInNames old table model (Err fault) new → IsBridgingOf old user.model
    → user.parked ≡ [] → IsCacheInStep (cached new_user new (stays (Err given)))
step_answer user new_user old new table model fault given is e h stands settled =
    subst (λ r. IsCacheInStep (cached new_user new (stays (Err r)))) (sym is)
    (in_step_still user new_user old new table model fault e h stands settled)

-- ---- a cache to which a solver is to be attached

pub by_fault : {A E : Type 0} (r : Result A E) (fault : E) (Q : Result A E → Type 0)
    → IsErrAnd r (λ e. e ≡ fault) → Q (Err fault) → Q r
by_fault (Ok a) fault Q h q = absurd h
by_fault (Err e) fault Q h q = subst (λ x. Q (Err x)) (sym h) q

pub attach_answer : (cache : Cached) (user : StoredModel) (old new : Owned) (attached : Bool)
    (fault : BridgeFault) (r : Result ℕ AttachFault) → cached user old attached ≡ cache
    → attached ≡ false → IsBridgedInNames old old.bridges.table user.model (Err fault) new
    → IsErrAnd r (λ e. e ≡ attach_fault fault)
    → IsAttached (state_of cache) r (state_of (cached user new attached))
attach_answer cache user old new attached fault r view none h given =
    subst (λ c. IsAttached (state_of c) r (state_of (cached user new attached))) view
    (subst (λ b. IsAttached (state_of (cached user old b)) r (state_of (cached user new b)))
    (sym none)
    (by_fault r (attach_fault fault)
    (λ x. IsAttached (state_of (cached user old false)) x (state_of (cached user new false))) given
    (unattached user old new fault h)))

pub attach_done : (cache : Cached) (user : StoredModel) (old new : Owned) (attached : Bool) (n : ℕ)
    → cached user old attached ≡ cache → attached ≡ false → IsCacheInStep (cached user old attached)
    → IsBridgedBy old old.bridges.table user.model (Ok n) new
    → IsAttached (state_of cache) (Ok n) (state_of (cached user new true))
attach_done cache user old new attached n view none step h =
    subst (λ c. IsAttached (state_of c) (Ok n) (state_of (cached user new true))) view
    (subst (λ b. IsAttached (state_of (cached user old b)) (Ok n) (state_of (cached user new true)))
    (sym none)
    (attached_to user old new n (subst (λ b. StandsAttached b old user.model) none step.stands) h))

pub still_in_step : (user : StoredModel) (old new : Owned) (attached : Bool) (fault : BridgeFault)
    → attached ≡ false → IsCacheInStep (cached user old attached)
    → IsBridgedInNames old old.bridges.table user.model (Err fault) new
    → IsCacheInStep (cached user new attached)
still_in_step user old new attached fault none step h = record {
  stands =
      subst (λ b. StandsAttached b new user.model) (sym none)
      (still_detached user old new fault h
      (subst (λ b. StandsAttached b old user.model) none step.stands));
  settled = step.settled;
}
