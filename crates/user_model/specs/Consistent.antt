-- What holds of every model that edits lead to, as far as finding things in it goes.
use Rattle.std.specs.Prelude.{◌≡◌, ◌≢◌, ℕ, ◌+◌, ◌<◌, ◌≤◌, true, All, AllPairs, IsSome, length}
use Rattle.numbered_list.specs.Numbered.{Rise}
use Rattle.user_model.specs.declared.group.GroupVar.{GroupVar}
use Rattle.user_model.specs.Model.{ModelValue, group_of, is_variable, total_terms, variables}
use Rattle.user_model.specs.Limits.{ALL_TERMS, LAST_NUMBER, ROWS, VARIABLES}
use Rattle.user_model.specs.Edited.{group_number, row_number}

abbrev pub variable_number : GroupVar → ℕ
variable_number var = var.number

-- the lists stand in the order of their numbers, which are below the next ones; names are distinct;
-- plain scalar rows are on variables that stand in the model
pub record IsConsistent (model : ModelValue) : Type 0 where
  pub groups_rise : Rise group_number model.groups
  pub variables_rise : Rise variable_number (variables model)
  pub rows_rise : Rise row_number model.rows
  pub given_groups : All (λ g. g.id < model.next.group) model.groups
  pub given_variables : All (λ v. v.number < model.next.variable) (variables model)
  pub given_rows : All (λ r. r.id < model.next.row) model.rows
  pub variable_names : AllPairs (λ v w. v.name ≢ w.name) (variables model)
  pub row_names : AllPairs (λ r s. r.name ≢ s.name) model.rows
  pub bounds : (n : ℕ)
      → All (λ r. is_variable n r.func ≡ true → IsSome (group_of model n)) model.rows

-- the model has no more than it may
pub record IsWithinLimits (model : ModelValue) : Type 0 where
  pub variables : length (variables model) ≤ VARIABLES
  pub rows : length model.rows ≤ ROWS
  pub terms : total_terms model ≤ ALL_TERMS
  pub group_numbers : model.next.group ≤ LAST_NUMBER + 1
  pub variable_numbers : model.next.variable ≤ LAST_NUMBER + 1
  pub row_numbers : model.next.row ≤ LAST_NUMBER + 1
