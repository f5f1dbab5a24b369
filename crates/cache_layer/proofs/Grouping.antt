-- What a group of edits leaves, by what was made and by what the bridging answers.
use Rattle.std.specs.Prelude.{◌≡◌, ◌≢◌, ℕ, Bool, true, false, List, [], Option, Some, None, Result, Ok, Err, refl}
use Rattle.std.proofs.Common.{ap, sym, subst, ◌∙◌}
use Rattle.item_core.specs.declared.table.Table.{Table}
use Rattle.lazy_bridge.specs.Owned.{IsBridgingOf, Owned}
use Rattle.lazy_bridge.specs.Pushed.{IsBridgedBy}
use Rattle.model_store.specs.Store.{StoredModel}
use Rattle.report_core.specs.declared.refused.Place.{Place}
use Rattle.small_number_laws.specs.SmallNumbers.{HasSmallNumbers}
use Rattle.user_model.specs.Model.{ModelValue}
use Rattle.user_model.specs.declared.edit.Edit.{Edit}
use Rattle.user_model.specs.declared.refusal.Refusal.{Refusal as EditRefusal}
use Rattle.user_model.specs.declared.undo.Undo.{Undo}
use Rattle.cache_layer.specs.Answers.{Becomes, IsGroupAnswer, UnlessRefused, as_edits}
use Rattle.cache_layer.specs.Bridging.{IsBridgedInNames, state_by, stays}
use Rattle.cache_layer.specs.Cached.{Cached, IsCacheInStep, cached, state_of}
use Rattle.cache_layer.specs.Faults.{bridge_fault, group_fault}
use Rattle.cache_layer.specs.FewCalls.{EditsFew}
use Rattle.model_load.specs.Loads.{AreEditsMade, AreKept, after_edits}
use Rattle.cache_layer.specs.declared.fault.BridgeFault.{BridgeFault}
use Rattle.cache_layer.specs.declared.fault.BridgeFault.TheVariants as bridge
use Rattle.cache_layer.specs.declared.fault.GroupFault.{GroupFault}
use Rattle.cache_layer.specs.declared.fault.GroupFault.TheVariants as group
use Rattle.cache_layer.proofs.Editing.{NeverOverflows, bridged, in_step_still, unbridged}
use Rattle.cache_layer.proofs.FewSteps.{edit_few}

-- a group's fault of the bridging is an edit's
alone : (fault : BridgeFault) (given : GroupFault) → given ≡ group_fault fault
    → as_edits {A = Option ℕ} (Err given) ≡ Err (bridge_fault fault)
alone (bridge.Unsupported kind) given is = ap (λ g. as_edits (Err g)) is
alone (bridge.Overflow place) given is = ap (λ g. as_edits (Err g)) is
alone bridge.Memory given is = ap (λ g. as_edits (Err g)) is

-- ---- the model after all edits is bridged

pub grouped : (user mid new_user : StoredModel) (old new : Owned) (edits : List Edit)
    (undos : List Undo) (n : ℕ) → AreEditsMade user edits undos mid → new_user.model ≡ mid.model
    → IsBridgingOf old user.model → IsBridgedBy old old.bridges.table mid.model (Ok n) new
    → IsGroupAnswer (state_of (cached user old true)) edits (Ok (Some n))
    (state_of (cached new_user new true))
grouped user mid new_user old new edits undos n h e stands b =
    (mid.model, h.made, bridged user new_user old new old.bridges.table mid.model n e stands b)

pub grouped_in_step : (user mid new_user : StoredModel) (old new : Owned) (n : ℕ)
    → new_user.model ≡ mid.model → new_user.parked ≡ user.parked → user.parked ≡ []
    → IsBridgedBy old old.bridges.table mid.model (Ok n) new
    → IsCacheInStep (cached new_user new true)
grouped_in_step user mid new_user old new n e parked settled b = record {
  stands = subst (IsBridgingOf new) (sym e) b.0;
  settled = parked ∙ settled;
}

-- ---- or it is not

group_unbridged : (user mid new_user : StoredModel) (old new : Owned) (edits : List Edit)
    (undos : List Undo) (fault : BridgeFault) → AreEditsMade user edits undos mid → new_user ≡ user
    → IsBridgedInNames old old.bridges.table mid.model (Err fault) new
    → IsGroupAnswer (state_of (cached user old true)) edits (Err (group_fault fault))
    (state_of (cached new_user new (stays (as_edits (Err (group_fault fault))))))
group_unbridged user mid new_user old new edits undos fault h e b =
    by fault (unbridged user new_user old new old.bridges.table mid.model fault e b)
  where
    by : (fault : BridgeFault)
        → Becomes (state_of (cached user old true)) (state_by old old.bridges.table mid.model)
        (Err (bridge_fault fault)) (state_of (cached new_user new (stays (Err (bridge_fault fault)))))
        → IsGroupAnswer (state_of (cached user old true)) edits (Err (group_fault fault))
        (state_of (cached new_user new (stays (as_edits (Err (group_fault fault))))))
    by (bridge.Unsupported kind) b = (mid.model, h.made, b)
    by (bridge.Overflow place) b = (mid.model, h.made, b)
    by bridge.Memory b = b

pub group_answer : (user mid new_user : StoredModel) (old new : Owned) (edits : List Edit)
    (undos : List Undo) (fault : BridgeFault) (given : GroupFault) → given ≡ group_fault fault
    → AreEditsMade user edits undos mid → new_user ≡ user
    → IsBridgedInNames old old.bridges.table mid.model (Err fault) new
    → IsGroupAnswer (state_of (cached user old true)) edits (Err given)
    (state_of (cached new_user new (stays (as_edits (Err given)))))
group_answer user mid new_user old new edits undos fault given is h e b =
    subst (λ r. IsGroupAnswer (state_of (cached user old true)) edits (Err r)
    (state_of (cached new_user new (stays (as_edits (Err r)))))) (sym is)
    (group_unbridged user mid new_user old new edits undos fault h e b)

pub group_step : (user new_user : StoredModel) (old new : Owned) (model : ModelValue)
    (fault : BridgeFault) (given : GroupFault) → given ≡ group_fault fault → new_user ≡ user
    → IsBridgedInNames old old.bridges.table model (Err fault) new → IsBridgingOf old user.model
    → user.parked ≡ [] → IsCacheInStep (cached new_user new (stays (as_edits (Err given))))
group_step user new_user old new model fault given is e b stands settled =
    subst (λ r. IsCacheInStep (cached new_user new (stays r))) (sym (alone fault given is))
    (in_step_still user new_user old new old.bridges.table model fault e b stands settled)

pub group_untouched : (user new_user : StoredModel) (old new : Owned) (model : ModelValue)
    (fault : BridgeFault) (given : GroupFault) (attached : Bool) → given ≡ group_fault fault
    → new_user ≡ user → IsBridgedInNames old old.bridges.table model (Err fault) new
    → UnlessRefused (as_edits {A = Option ℕ} (Err given)) (cached user old true)
    (cached new_user new attached)
group_untouched user new_user old new model fault given attached is e b =
    subst (λ r. UnlessRefused {A = Option ℕ} r (cached user old true) (cached new_user new attached))
    (sym (alone fault given is)) (by fault b)
  where
    by : (fault : BridgeFault) → IsBridgedInNames old old.bridges.table model (Err fault) new
        → UnlessRefused {A = Option ℕ} (Err (bridge_fault fault)) (cached user old true)
        (cached new_user new attached)
    by (bridge.Unsupported kind) b = (e, b.1)
    by (bridge.Overflow place) b = (e, b.1)
    by bridge.Memory b = tt

pub group_few : (old new : Owned) (table : Table) (model : ModelValue) (fault : BridgeFault)
    (given : GroupFault) → given ≡ group_fault fault
    → IsBridgedInNames old table model (Err fault) new → EditsFew (as_edits (Err given)) old new
group_few old new table model fault given is b =
    subst (λ r. EditsFew r old new) (sym (alone fault given is))
    (edit_few old new table model fault (bridge_fault fault) refl b)

-- ---- what is never given

pub never_grouped : (fault : BridgeFault) (given : GroupFault)
    (r : Result (Option ℕ) GroupFault) → r ≡ Err given → given ≡ group_fault fault
    → NeverOverflows (Err fault) → (place : Place) → r ≢ Err (group.Overflow place)
never_grouped (bridge.Unsupported kind) given r same is never place e = cc
never_grouped (bridge.Overflow at) given r same is never place e = absurd (never at refl)
never_grouped bridge.Memory given r same is never place e = cc

-- the model that all edits make is one
pub made_small : (user mid : StoredModel) (edits : List Edit) (undos : List Undo) (made : ModelValue)
    → AreEditsMade user edits undos mid → after_edits user.model edits ≡ Ok made
    → HasSmallNumbers made → HasSmallNumbers mid.model
made_small user mid edits undos made h e small =
    subst HasSmallNumbers (one (after_edits user.model edits) e h.made) small
  where
    one : (r : Result ModelValue EditRefusal) → r ≡ Ok made → r ≡ Ok mid.model → made ≡ mid.model
    one r e f = cc

-- ---- without a solver

pub alone_made : (cache : Cached) (user new_user : StoredModel) (lazy : Owned) (attached : Bool)
    (edits : List Edit) → cached user lazy attached ≡ cache → attached ≡ false
    → AreKept user edits new_user
    → IsGroupAnswer (state_of cache) edits (Ok None) (state_of (cached new_user lazy attached))
alone_made cache user new_user lazy attached edits view off h =
    subst (λ c. IsGroupAnswer (state_of c) edits (Ok None) (state_of (cached new_user lazy attached)))
    view (new_user.model, h.made, (off, refl))
