-- Changes of a row and of a group, where the row or the group is found.
use Rattle.std.specs.Prelude.{◌≡◌, ℕ, List, Some, refl}
use Rattle.numbered_list.specs.Numbered.{put, without}
use Rattle.user_model.specs.declared.group.Group.{Group}
use Rattle.user_model.specs.declared.row.Row.{Row}
use Rattle.user_model.specs.Model.{ModelValue, group_of, row_named, variable_named}
use Rattle.user_model.specs.Edited.{change_group, change_row, delete_row, with_variable, group_number, row_number}

module _ (model : ModelValue) where
  pub change_row-found : (name : List ℕ) (h : Row → Row) (row : Row)
      → row_named model name ≡ Some row
      → change_row model name h ≡ record model { rows = put row_number (h row) model.rows }
  change_row-found name h row e = rw e refl

  pub delete_row-found : (name : List ℕ) (row : Row) → row_named model name ≡ Some row
      → delete_row model name ≡ record model { rows = without row_number row.id model.rows }
  delete_row-found name row e = rw e refl

  pub change_group-found : (n : ℕ) (h : Group → Group) (group : Group)
      → group_of model n ≡ Some group
      → change_group model n h ≡ record model { groups = put group_number (h group) model.groups }
  change_group-found n h group e = rw e refl

  pub with_variable-found : (name : List ℕ) (h : ℕ → ModelValue) (n : ℕ)
      → variable_named model name ≡ Some n → with_variable model name h ≡ h n
  with_variable-found name h n e = rw e refl
