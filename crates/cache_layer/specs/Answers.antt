-- What the calls of a cache answer, and the state that they leave. After a refusal it is the one
-- before, and without memory it is that one without its solver.
use Rattle.std.specs.Prelude.{◌≡◌, ◌+◌, ℕ, true, false, List, Option, Some, None, Result, Ok, Err}
use Rattle.cache_layer.specs.Cached.{Cached}
use Rattle.cache_layer.specs.CacheState.{CacheState, ChangesLeaves, HasLeaves, OverflowsAt, attached, detached, with_model}
use Rattle.cache_layer.specs.declared.fault.AttachFault.{AttachFault}
use Rattle.cache_layer.specs.declared.fault.AttachFault.TheVariants as attach
use Rattle.cache_layer.specs.declared.fault.EditFault.{EditFault}
use Rattle.cache_layer.specs.declared.fault.EditFault.TheVariants.{Memory, Overflow, Refused, Unsupported}
use Rattle.cache_layer.specs.declared.fault.GroupFault.{GroupFault}
use Rattle.cache_layer.specs.declared.fault.GroupFault.TheVariants as group
use Rattle.fresh_bridging.specs.FreshBridging.{IsUnsupported}
use Rattle.lazy_bridge.specs.Pushed.{IsTried}
use Rattle.model_load.specs.Loads.{accepted_first, after_edits}
use Rattle.user_model.specs.declared.edit.Edit.{Edit}
use Rattle.user_model.specs.Edited.{edited}
use Rattle.user_model.specs.Model.{ModelValue}
use Rattle.user_model.specs.Refusals.{first_refusal}

-- the next state is reached; but while a solver is attached not where an item of its model has no
-- tree, nor where a number of the bridging doesn't fit
abbrev pub Becomes : CacheState → CacheState → Result (Option ℕ) EditFault → CacheState → Type 0
Becomes old next (Ok None) new = (old.attached ≡ false) × (new ≡ next)
Becomes old next (Ok (Some n)) new = (old.attached ≡ true) × ChangesLeaves old next n × (new ≡ next)
Becomes old next (Err (Unsupported kind)) new =
    (old.attached ≡ true) × IsUnsupported next.setting next.model kind × (new ≡ old)
Becomes old next (Err (Overflow place)) new =
    (old.attached ≡ true) × OverflowsAt next place × (new ≡ old)
Becomes old next (Err Memory) new = new ≡ detached old
Becomes old next (Err (Refused refusal)) new = ⊥

-- an edit is refused first for itself, and then for its model's bridging
abbrev pub IsEdited : CacheState → Edit → Result (Option ℕ) EditFault → CacheState → Type 0
IsEdited old edit (Err (Refused refusal)) new =
    (first_refusal old.model edit ≡ Some refusal) × (new ≡ old)
IsEdited old edit (Err Memory) new = new ≡ detached old
IsEdited old edit answer new =
    (first_refusal old.model edit ≡ None)
    × Becomes old (with_model old (edited old.model edit)) answer new

-- all edits are made, or none
abbrev pub IsLoaded : CacheState → List Edit → Result Unit EditFault → CacheState → Type 0
IsLoaded old edits (Ok done) new =
    (after_edits old.model edits ≡ Ok new.model) × (new ≡ with_model old new.model)
IsLoaded old edits (Err (Refused refusal)) new =
    (after_edits old.model edits ≡ Err refusal) × (new ≡ old)
IsLoaded old edits (Err Memory) new = new ≡ old
IsLoaded old edits (Err (Unsupported kind)) new = ⊥
IsLoaded old edits (Err (Overflow place)) new = ⊥

-- a group's fault as an edit's, which has no number
abbrev pub fault_alone : GroupFault → EditFault
fault_alone (group.Refused index refusal) = Refused refusal
fault_alone (group.Unsupported kind) = Unsupported kind
fault_alone (group.Overflow place) = Overflow place
fault_alone group.Memory = Memory

abbrev pub as_edits : {A : Type 0} → Result A GroupFault → Result A EditFault
as_edits (Ok a) = Ok a
as_edits (Err fault) = Err (fault_alone fault)

-- a group of edits is refused first for the first of them that is refused, by its number from 1, and
-- then for the bridging of the model after all of them
abbrev pub IsGroupAnswer : CacheState → List Edit → Result (Option ℕ) GroupFault → CacheState
    → Type 0
IsGroupAnswer old edits (Err (group.Refused index refusal)) new =
    (after_edits old.model edits ≡ Err refusal)
    × (index ≡ accepted_first old.model edits + 1) × (new ≡ old)
IsGroupAnswer old edits (Err group.Memory) new = new ≡ detached old
IsGroupAnswer old edits answer new =
    (model : ModelValue) × (after_edits old.model edits ≡ Ok model)
    × Becomes old (with_model old model) (as_edits answer) new

-- a solver is attached, and has this number of leaves
abbrev pub IsAttached : CacheState → Result ℕ AttachFault → CacheState → Type 0
IsAttached old (Ok n) new =
    (old.attached ≡ false) × HasLeaves old n × (new ≡ attached old)
IsAttached old (Err attach.AlreadyAttached) new = (old.attached ≡ true) × (new ≡ old)
IsAttached old (Err (attach.Unsupported kind)) new =
    (old.attached ≡ false) × IsUnsupported old.setting old.model kind × (new ≡ old)
IsAttached old (Err (attach.Overflow place)) new =
    (old.attached ≡ false) × OverflowsAt old place × (new ≡ old)
IsAttached old (Err attach.Memory) new = (old.attached ≡ false) × (new ≡ old)

-- a refusal leaves all but the bridges' turns
abbrev pub IsUntouched : Cached → Cached → Type 0
IsUntouched old new = (new.user ≡ old.user) × IsTried old.lazy new.lazy

abbrev pub UnlessRefused : {A : Type 0} → Result A EditFault → Cached → Cached → Type 0
UnlessRefused (Ok a) old new = Unit {0}
UnlessRefused (Err Memory) old new = Unit {0}
UnlessRefused (Err fault) old new = IsUntouched old new

-- the same where a solver is to be attached
abbrev pub UnlessAttached : Result ℕ AttachFault → Cached → Cached → Type 0
UnlessAttached (Ok n) old new = Unit {0}
UnlessAttached (Err attach.Memory) old new = Unit {0}
UnlessAttached (Err fault) old new = IsUntouched old new
