-- What contracts see of the user's model as it is stored: the model, and an entry for each undo
-- that may still be taken back.
use Rattle.std.specs.Prelude.{◌≡◌, ◌+◌, ◌≤◌, List, [], ◌∷◌, ◌++◌, Option, Some, None, length, refl}
use Rattle.std.specs.Coded.{Coded, code_by, coded×, coded_list}
use Rattle.numbered_list.specs.Changes.{AreChanges, added}
use Rattle.user_model.specs.declared.refusal.ApplyFault.{ApplyFault}
use Rattle.user_model.specs.declared.refusal.ApplyFault.TheVariants.{Refused, Memory}
use Rattle.user_model.specs.declared.refusal.Refusal.{Refusal}
use Rattle.user_model.specs.declared.undo.Undo.{Undo}
use Rattle.user_model.specs.Model.{ModelValue, variables}
use Rattle.user_model.specs.Edited.{group_number, row_number}
use Rattle.user_model.specs.Undone.{before}
use Rattle.model_store.specs.declared.parked.Parked.{Parked}
use Rattle.model_store.specs.contracts.parked.Parked as parked
use Rattle.model_catalog.specs.Catalog.{model_code}
use Rattle.model_catalog.specs.Names.{put_count}
use Rattle.model_catalog.specs.Named.{AreNameChanges}

pub record StoredModel : Type 0 where
  pub model : ModelValue
  pub parked : List Parked

abbrev pub stored_code : Coded StoredModel
stored_code =
    code_by (ModelValue × List Parked) (coded× model_code (coded_list (parked.the_row).coded))
    (λ s. (s.model, s.parked)) (λ p. record { model = p.0; parked = p.1 }) (λ _. refl)

-- the entry is this undo's, as the model stands: the undo lists groups and rows in order, and the
-- entry has the names that it puts back, and lengths that are enough for it
pub record IsUndoEntry (entry : Parked) (model : ModelValue) (undo : Undo) : Type 0 where
  pub group_changes : AreChanges group_number undo.groups
  pub row_changes : AreChanges row_number undo.rows
  pub names : AreNameChanges entry.names model (before model undo)
  pub groups : length model.groups + added group_number undo.groups model.groups ≤ entry.groups
  pub rows : length model.rows + added row_number undo.rows model.rows ≤ entry.rows
  pub variables : length (variables model) + put_count entry.names.variables.items ≤ entry.variables

-- the longer list has one entry more, last, and that is this undo's as the model stands
pub record HasParked (shorter longer : List Parked) (model : ModelValue)
    (undo : Undo) : Type 0 where
  pub entry : Parked
  pub last : longer ≡ shorter ++ entry ∷ []
  pub is : IsUndoEntry entry model undo

-- the last entry is this undo's: it was made for it, as some model stood then
pub record IsLastOf (parked : List Parked) (undo : Undo) : Type 0 where
  pub others : List Parked
  pub model : ModelValue
  pub entry : HasParked others parked model undo

-- the longer list has one entry more, last
abbrev pub IsButLast : List Parked → List Parked → Type 0
IsButLast shorter longer = (entry : Parked) × (longer ≡ shorter ++ entry ∷ [])

-- the refusal that a fault is, and none where memory is short
abbrev pub refusal_of : ApplyFault → Option Refusal
refusal_of (Refused refusal) = Some refusal
refusal_of Memory = None
