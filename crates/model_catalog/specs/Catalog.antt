-- What contracts see of a kept model: the model, and how much more of each kind can be put into it
-- without memory.
use Rattle.std.specs.Prelude.{ℕ, List, refl}
use Rattle.std.specs.Coded.{Coded, code_by, coded×, coded_ℕ, coded_list}
use Rattle.user_model.specs.declared.group.Group.{Group}
use Rattle.user_model.specs.declared.row.Row.{Row}
use Rattle.user_model.specs.declared.objective.Objective.{Objective}
use Rattle.user_model.specs.declared.undo.NextNumbers.{NextNumbers}
use Rattle.user_model.specs.contracts.group.Group as group
use Rattle.user_model.specs.contracts.row.Row as row
use Rattle.user_model.specs.contracts.objective.Objective as objective
use Rattle.user_model.specs.contracts.undo.NextNumbers as numbers
use Rattle.user_model.specs.Model.{ModelValue}

-- the lengths that the lists of groups, rows and variables can have, and how many names of
-- variables and of rows can be added
pub record CatalogRoom : Type 0 where
  pub groups : ℕ
  pub rows : ℕ
  pub variables : ℕ
  pub variable_names : ℕ
  pub row_names : ℕ

pub record Catalog : Type 0 where
  pub model : ModelValue
  pub room : CatalogRoom

abbrev pub room_code : Coded CatalogRoom
room_code =
    code_by (ℕ × (ℕ × (ℕ × (ℕ × ℕ)))) (coded× coded_ℕ
    (coded× coded_ℕ (coded× coded_ℕ (coded× coded_ℕ coded_ℕ))))
    (λ r. (r.groups, (r.rows, (r.variables, (r.variable_names, r.row_names)))))
    (λ p. record {
      groups = p.0;
      rows = p.1.0;
      variables = p.1.1.0;
      variable_names = p.1.1.1.0;
      row_names = p.1.1.1.1;
    }) (λ _. refl)

abbrev pub model_code : Coded ModelValue
model_code =
    code_by (List Group × (List Row × (Objective × NextNumbers)))
    (coded× (coded_list (group.the_row).coded) (coded× (coded_list (row.the_row).coded)
    (coded× (objective.the_row).coded (numbers.the_row).coded)))
    (λ m. (m.groups, (m.rows, (m.objective, m.next))))
    (λ p. record { groups = p.0; rows = p.1.0; objective = p.1.1.0; next = p.1.1.1 })
    (λ _. refl)

abbrev pub catalog_code : Coded Catalog
catalog_code =
    code_by (ModelValue × CatalogRoom) (coded× model_code room_code) (λ c. (c.model, c.room))
    (λ p. record { model = p.0; room = p.1 }) (λ _. refl)
