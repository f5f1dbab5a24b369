-- What the deletion of a variable changes, as contents by number: the rows and the groups without
-- the variable are those with it with these contents set.
use Rattle.std.specs.Prelude.{◌≡◌, ℕ, List, [], ◌∷◌, Some}
use Rattle.std.specs.Option.{option_map_or}
use Rattle.std.specs.List.{filter_map}
use Rattle.std.proofs.Common.{sym, subst}
use Rattle.numbered_list.specs.declared.change.Change.{Change}
use Rattle.numbered_list.specs.Changes.{AreChanges, set_all}
use Rattle.user_model.specs.declared.group.Group.{Group}
use Rattle.user_model.specs.declared.row.Row.{Row}
use Rattle.user_model.specs.Model.{ModelValue, group_of, row_mentions, variable_address, variable_named}
use Rattle.user_model.specs.Deletion.{group_without, row_without}
use Rattle.user_model.specs.Edited.{group_number, row_number}
use Rattle.user_model.specs.Consistent.{IsConsistent}
use Rattle.model_laws.specs.ItemChanges.{AreChanges-edits, edits_of, set_all_edits}
use Rattle.model_laws.specs.Mentions.{row_unmentioned}
use Rattle.model_laws.specs.KeptDeletion.{row_keeps_number}
use Rattle.model_laws.specs.DeletedGroup.{group_deleted}
use Rattle.model_laws.specs.Located.{named_stands, variable_located}
use Rattle.model_laws.specs.Found.{something}

-- the group of the variable with a number loses it, or goes
abbrev pub group_deletion : ModelValue → ℕ → List (Change Group)
group_deletion model n = option_map_or (λ group.
    record { number = group.id; content = group_without n group } ∷ []) (group_of model n) []

-- the rows that mention the variable with a number lose it, or go
abbrev pub deletion_changes : ModelValue → ℕ → List (Change Row)
deletion_changes model n = edits_of row_number (row_without (variable_address n))
    (row_mentions (variable_address n)) model.rows

module _ (model : ModelValue) where
  pub AreChanges-deletion : (n : ℕ) → IsConsistent model
      → AreChanges row_number (deletion_changes model n)
  AreChanges-deletion n c = AreChanges-edits row_number (row_without (variable_address n))
      (row_mentions (variable_address n)) (row_keeps_number (variable_address n)) model.rows
      c.rows_rise

  -- the rows after a deletion of a variable
  pub deletion_makes : (n : ℕ) → IsConsistent model
      → set_all row_number (deletion_changes model n) model.rows
      ≡ filter_map (row_without (variable_address n)) model.rows
  deletion_makes n c =
      set_all_edits row_number (row_without (variable_address n))
      (row_mentions (variable_address n)) (row_keeps_number (variable_address n))
      (row_unmentioned (variable_address n)) model.rows c.rows_rise

  -- the groups after it
  pub group_deletion_makes : (name : List ℕ) (n : ℕ) → IsConsistent model
      → variable_named model name ≡ Some n
      → set_all group_number (group_deletion model n) model.groups
      ≡ filter_map (group_without n) model.groups
  group_deletion_makes name n c e =
      let there = something (group_of model n) (named_stands model name n e) in
      let var = variable_located model name n there.0 c e there.1 in
      subst (λ o. set_all group_number (option_map_or
      (λ group. record { number = group.id; content = group_without n group } ∷ []) o [])
      model.groups ≡ filter_map (group_without n) model.groups) (sym there.1)
      (group_deleted n there.0 model.groups c.groups_rise c.variables_rise var.1.by_number var.0
      var.1.there var.1.number)
