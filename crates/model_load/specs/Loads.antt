-- Edits made one after another, and what leads back from them.
use Rattle.std.specs.Prelude.{◌≡◌, ◌+◌, ℕ, List, [], ◌∷◌, ◌++◌, None, Result, Ok, Err, reverse}
use Rattle.std.specs.Option.{option_map_or}
use Rattle.model_store.specs.Store.{HasParked, StoredModel, refusal_of}
use Rattle.model_store.specs.declared.parked.Parked.{Parked}
use Rattle.user_model.specs.Accepted.{LeadsTo}
use Rattle.user_model.specs.Edited.{edited}
use Rattle.user_model.specs.Model.{ModelValue}
use Rattle.user_model.specs.Refusals.{first_refusal}
use Rattle.user_model.specs.Undone.{IsUndo, before}
use Rattle.user_model.specs.declared.edit.Edit.{Edit}
use Rattle.user_model.specs.declared.refusal.Refusal.{Refusal}
use Rattle.user_model.specs.declared.refusal.ApplyFault.{ApplyFault}
use Rattle.user_model.specs.declared.refusal.ApplyFault.TheVariants.{Memory, Refused}
use Rattle.user_model.specs.declared.undo.Undo.{Undo}
use Rattle.model_load.specs.declared.fault.Unmade.{Unmade}
use Rattle.model_load.specs.declared.fault.Unmade.TheVariants as part

-- edits one after another, or why the first that is refused is
unfoldable pub after_edits : ModelValue → List Edit → Result ModelValue Refusal
after_edits model [] = Ok model
after_edits model (edit ∷ edits) =
    option_map_or Err (first_refusal model edit) (after_edits (edited model edit) edits)

-- how many of them come before the first that is refused
unfoldable pub accepted_first : ModelValue → List Edit → ℕ
accepted_first model [] = 0
accepted_first model (edit ∷ edits) =
    option_map_or (λ _. 0) (first_refusal model edit) (1 + accepted_first (edited model edit) edits)

-- an edit is made for good, or nothing changed
abbrev pub IsEditMade : StoredModel → Edit → Result Unit ApplyFault → StoredModel → Type 0
IsEditMade old edit (Ok done) new =
    (first_refusal old.model edit ≡ None) × (new ≡ record old { model = edited old.model edit })
IsEditMade old edit (Err fault) new =
    (refusal_of fault ≡ first_refusal old.model edit) × (new ≡ old)

-- all edits are made for good, or nothing changed
abbrev pub AreMadeBy : StoredModel → List Edit → Result Unit ApplyFault → StoredModel → Type 0
AreMadeBy old edits (Ok done) new =
    (after_edits old.model edits ≡ Ok new.model) × (new.parked ≡ old.parked)
AreMadeBy old edits (Err (Refused refusal)) new =
    (after_edits old.model edits ≡ Err refusal) × (new ≡ old)
AreMadeBy old edits (Err Memory) new = new ≡ old

-- ---- what leads back

-- the undo leads back from an edit, and is the last that waits
pub record IsLastStep (old : StoredModel) (undo : Undo) (new : StoredModel) : Type 0 where
  pub edit : LeadsTo old.model new.model
  pub lists : IsUndo old.model new.model undo
  pub back : before new.model undo ≡ old.model
  pub parked : HasParked old.parked new.parked new.model undo

-- the undos, the last first, lead back to where they began
abbrev pub LeadBack : StoredModel → List Undo → StoredModel → Type 0
LeadBack start [] new = new ≡ start
LeadBack start (undo ∷ undos) new =
    (old : StoredModel) × LeadBack start undos old × IsLastStep old undo new

-- the edit is made, and its undo comes last
pub record IsNextStep (old : StoredModel) (edit : Edit) (new : StoredModel)
    (shorter longer : List Undo) : Type 0 where
  pub undo : Undo
  pub accepted : first_refusal old.model edit ≡ None
  pub after : new.model ≡ edited old.model edit
  pub step : IsLastStep old undo new
  pub put : longer ≡ shorter ++ undo ∷ []

-- the undos, the last first, are those of the entries by which the longer list is longer
abbrev pub AreParkedFor : List Parked → List Undo → List Parked → Type 0
AreParkedFor shorter [] longer = longer ≡ shorter
AreParkedFor shorter (undo ∷ undos) longer =
    (others : List Parked) × AreParkedFor shorter undos others
    × ((model : ModelValue) × HasParked others longer model undo)

-- ---- all or none

-- all edits are made, and the undos, the last first, lead back from them
pub record AreEditsMade (old : StoredModel) (edits : List Edit) (undos : List Undo)
    (new : StoredModel) : Type 0 where
  pub made : after_edits old.model edits ≡ Ok new.model
  pub back : LeadBack old (reverse undos) new

-- all edits are made for good
pub record AreKept (old : StoredModel) (edits : List Edit) (new : StoredModel) : Type 0 where
  pub made : after_edits old.model edits ≡ Ok new.model
  pub settled : new.parked ≡ old.parked

-- the first of the edits that is refused is this one
abbrev pub IsUnmade : ModelValue → List Edit → Unmade → Type 0
IsUnmade model edits (part.Refused index refusal) =
    (after_edits model edits ≡ Err refusal) × (index ≡ accepted_first model edits + 1)
IsUnmade model edits part.Memory = Unit {0}

-- the fault of the edit behind this number of edits
abbrev pub unmade_behind : ℕ → ApplyFault → Unmade
unmade_behind made (Refused refusal) = part.Refused (made + 1) refusal
unmade_behind made Memory = part.Memory

abbrev pub apply_fault : Unmade → ApplyFault
apply_fault (part.Refused index refusal) = Refused refusal
apply_fault part.Memory = Memory
