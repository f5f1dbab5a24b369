-- What undos list, as addresses of the user's items.
--     IsUnlisted      an undo lists nothing at the address
--     LeadBackTo      undos lead back from one model to another
use Rattle.std.specs.Prelude.{◌≡◌, ◌+◌, ℕ, List, [], ◌∷◌, length, None}
use Rattle.std.specs.Option.{option_map_or}
use Rattle.aff_core.specs.Address.{Address}
use Rattle.aff_core.specs.declared.root.Root.TheVariants as root
use Rattle.numbered_list.specs.Changes.{changed_number}
use Rattle.numbered_list.specs.Numbered as numbered
use Rattle.user_model.specs.Model.{ModelValue}
use Rattle.user_model.specs.Undone.{IsUndo}
use Rattle.user_model.specs.declared.undo.Undo.{Undo}

-- no entry is of the item at the address
pub record IsUnlisted (undo : Undo) (at : Address) : Type 0 where
  pub groups : at.root ≡ root.Group → numbered.find changed_number at.number undo.groups ≡ None
  pub rows : at.root ≡ root.Row → numbered.find changed_number at.number undo.rows ≡ None
  pub objective : at.root ≡ root.Objective → undo.objective ≡ None

-- how many entries undos have
abbrev pub entries_of : List Undo → ℕ
entries_of [] = 0
entries_of (undo ∷ undos) =
    length undo.groups + length undo.rows + option_map_or (λ _. 1) undo.objective 0
    + entries_of undos

-- the undos, the last first, lead back from the second model to the first
abbrev pub LeadBackTo : ModelValue → List Undo → ModelValue → Type 0
LeadBackTo model [] after = model ≡ after
LeadBackTo model (undo ∷ undos) after =
    (between : ModelValue) × IsUndo model between undo × LeadBackTo between undos after
