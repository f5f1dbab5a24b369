-- What an undo lists, and the model that it leads back to.
use Rattle.std.specs.Prelude.{◌≡◌, ◌≢◌, ℕ, List, All, Option, Some, None, unwrap_or}
use Rattle.numbered_list.specs.declared.change.Change.{Change}
use Rattle.numbered_list.specs.Numbered.{Rise, find}
use Rattle.numbered_list.specs.Changes.{changed_number, set_all}
use Rattle.user_model.specs.declared.objective.Objective.{Objective}
use Rattle.user_model.specs.declared.undo.Undo.{Undo}
use Rattle.user_model.specs.Model.{ModelValue}
use Rattle.user_model.specs.Edited.{group_number, row_number}

-- the changes list, in the order of numbers, exactly the numbers at which the lists differ, with
-- the old content
pub record AreDifferences {X : Type 0} (number_of : X → ℕ) (old new : List X)
    (changes : List (Change X)) : Type 0 where
  pub rising : Rise changed_number changes
  pub contents : All (λ c. c.content ≡ find number_of c.number old) changes
  pub differ : All (λ c. find number_of c.number old ≢ find number_of c.number new) changes
  pub all : (n : ℕ) → find changed_number n changes ≡ None
      → find number_of n old ≡ find number_of n new

-- the old objective where it changed
abbrev pub IsOldObjective : Objective → Objective → Option Objective → Type 0
IsOldObjective old new None = old ≡ new
IsOldObjective old new (Some content) = (content ≡ old) × (old ≢ new)

-- the undo lists exactly what differs, with the old content
pub record IsUndo (old new : ModelValue) (undo : Undo) : Type 0 where
  pub groups : AreDifferences group_number old.groups new.groups undo.groups
  pub rows : AreDifferences row_number old.rows new.rows undo.rows
  pub objective : IsOldObjective old.objective new.objective undo.objective
  pub next : undo.next ≡ old.next

-- the model before: each content that the undo has stands at its number again
abbrev pub before : ModelValue → Undo → ModelValue
before model undo = record {
  groups = set_all group_number undo.groups model.groups;
  rows = set_all row_number undo.rows model.rows;
  objective = unwrap_or undo.objective model.objective;
  next = undo.next;
}
