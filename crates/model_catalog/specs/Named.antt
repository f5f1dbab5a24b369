-- The names in a model by number, and what lists how they change from one model to another.
use Rattle.std.specs.Prelude.{◌≡◌, ℕ, List, Option, None, IsSome, IfSome}
use Rattle.std.specs.Option.{option_map}
use Rattle.numbered_list.specs.Numbered.{Rise, find}
use Rattle.user_model.specs.Model.{ModelValue, variables}
use Rattle.user_model.specs.Consistent.{variable_number}
use Rattle.user_model.specs.Edited.{row_number}
use Rattle.model_catalog.specs.declared.names.NameChange.{NameChange}
use Rattle.model_catalog.specs.declared.names.NameChanges.{NameChanges}
use Rattle.model_catalog.specs.Names.{listed_number, standing_names, renamed_by}
use Rattle.model_catalog.specs.Index.{group_number_of}

-- the name of the variable with a number
abbrev pub variable_name : ModelValue → ℕ → Option (List ℕ)
variable_name model n = option_map (λ v. v.name) (find variable_number n (variables model))

-- the name of the row with a number
abbrev pub row_name : ModelValue → ℕ → Option (List ℕ)
row_name model n = option_map (λ r. r.name) (find row_number n model.rows)

-- the listed names, in the order of their numbers, are all in which the new names differ from the
-- old ones
pub record ChangesNames (listed : List NameChange) (old new : ℕ → Option (List ℕ)) : Type 0 where
  pub rising : Rise listed_number listed
  pub named : (n : ℕ) → new n ≡ renamed_by listed old n

-- the variable with a number is in the group, if it stands in the model
abbrev pub IsInGroup : ℕ → ModelValue → ℕ → Type 0
IsInGroup group model n = IfSome (group_number_of model n) (λ id. id ≡ group)

-- the names that change from the old model to the new one; the listed variables stand in one group,
-- and the others keep theirs
pub record AreNameChanges (names : NameChanges) (old new : ModelValue) : Type 0 where
  pub variables : ChangesNames names.variables.items (variable_name old) (variable_name new)
  pub rows : ChangesNames names.rows.items (row_name old) (row_name new)
  pub in_group : (n : ℕ) → IsSome (find listed_number n names.variables.items)
      → IsInGroup names.group old n × IsInGroup names.group new n
  pub others : (n : ℕ) → find listed_number n names.variables.items ≡ None
      → group_number_of new n ≡ group_number_of old n

-- the same numbers with the names that stand in the model
pub record HasStandingNames (model : ModelValue) (names standing : NameChanges) : Type 0 where
  pub group : standing.group ≡ names.group
  pub variables : standing.variables.items
      ≡ standing_names (variable_name model) names.variables.items
  pub rows : standing.rows.items ≡ standing_names (row_name model) names.rows.items
