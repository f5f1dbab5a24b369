-- What is kept of a model, and the model that it is.
use Rattle.std.specs.Prelude.{◌≡◌, ℕ, List, Option}
use Rattle.name_index.specs.NameTable.{NumbersByName, IsOneToOne}
use Rattle.user_model.specs.Model.{ModelValue, total_terms}
use Rattle.user_model.specs.Consistent.{IsConsistent, IsWithinLimits}
use Rattle.model_catalog.specs.declared.catalog.Catalog.TheInside.{Inside}
use Rattle.model_catalog.specs.declared.variable.Variable.{Variable}
use Rattle.model_catalog.specs.Catalog.{Catalog}
use Rattle.model_catalog.specs.Names.{name_of}
use Rattle.model_catalog.specs.Index.{IsIndexOf}
use Rattle.model_catalog.specs.Named.{variable_name, row_name}

abbrev pub model_of : Inside → ModelValue
model_of a = record {
  groups = a.groups.items;
  rows = a.rows.items;
  objective = a.objective;
  next = a.next;
}

abbrev pub catalog_of : Inside → Catalog
catalog_of a = record {
  model = model_of a;
  room = record {
    groups = a.groups.room;
    rows = a.rows.room;
    variables = a.kept.room;
    variable_names = a.variable_names.spare;
    row_names = a.row_names.spare;
  };
}

-- the table has the names, and each has one number
pub record HasNames (naming : ℕ → Option (List ℕ)) (table : NumbersByName) : Type 0 where
  pub one_to_one : IsOneToOne table
  pub names : (n : ℕ) → name_of table n ≡ naming n

-- the model is kept with its variables, the names of variables and of rows, and the number of its
-- terms
pub record Keeps (model : ModelValue) (kept : List Variable) (variable_table row_table : NumbersByName)
    (count : ℕ) : Type 0 where
  pub consistent : IsConsistent model
  pub within : IsWithinLimits model
  pub index : IsIndexOf model kept
  pub variable_names : HasNames (variable_name model) variable_table
  pub row_names : HasNames (row_name model) row_table
  pub terms : count ≡ total_terms model

abbrev pub IsCatalogKept : Inside → Type 0
IsCatalogKept a = Keeps (model_of a) a.kept.items a.variable_names.numbers a.row_names.numbers a.terms
