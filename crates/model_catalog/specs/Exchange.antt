-- Exchanges of a model's content, and the room that they take.
use Rattle.std.specs.Prelude.{◌+◌, ◌≤◌, length}
use Rattle.std.specs.Option.{option_map}
use Rattle.numbered_list.specs.Changes.{AreChanges, added, olds}
use Rattle.user_model.specs.declared.undo.Undo.{Undo}
use Rattle.user_model.specs.Model.{ModelValue, variables}
use Rattle.user_model.specs.Edited.{group_number, row_number}
use Rattle.user_model.specs.Undone.{before}
use Rattle.model_catalog.specs.declared.exchange.Exchange.{Exchange}
use Rattle.model_catalog.specs.declared.names.NameChanges.{NameChanges}
use Rattle.model_catalog.specs.declared.room.More.{More}
use Rattle.model_catalog.specs.Catalog.{Catalog, CatalogRoom}
use Rattle.model_catalog.specs.Names.{put_count}

-- the contents of an exchange as an undo has them
abbrev pub contents : Exchange → Undo
contents with = record {
  groups = with.groups.items;
  rows = with.rows.items;
  objective = with.objective;
  next = with.next;
}

-- the model in which the contents have taken the places of what stood there
abbrev pub exchanged : Exchange → ModelValue → ModelValue
exchanged with model = before model (contents with)

-- what stands in the model where the contents are to stand
abbrev pub standing : ModelValue → Undo → Undo
standing model undo = record {
  groups = olds group_number undo.groups model.groups;
  rows = olds row_number undo.rows model.rows;
  objective = option_map (λ _. model.objective) undo.objective;
  next = model.next;
}

-- groups and rows in the order of their numbers, each at its own
pub record IsExchange (with : Exchange) : Type 0 where
  pub groups : AreChanges group_number with.groups.items
  pub rows : AreChanges row_number with.rows.items

-- there is room for the groups, rows and variables
pub record HasRoomFor (with : Exchange) (names : NameChanges) (catalog : Catalog) : Type 0 where
  pub groups : length catalog.model.groups
      + added group_number with.groups.items catalog.model.groups ≤ catalog.room.groups
  pub rows : length catalog.model.rows + added row_number with.rows.items catalog.model.rows
      ≤ catalog.room.rows
  pub variables : length (variables catalog.model) + put_count names.variables.items
      ≤ catalog.room.variables

-- there is room for the names
pub record HasSpare (names : NameChanges) (room : CatalogRoom) : Type 0 where
  pub variable_names : put_count names.variables.items ≤ room.variable_names
  pub row_names : put_count names.rows.items ≤ room.row_names

-- no more room is gone than that for the names which were put in
pub record KeepsRoom (names : NameChanges) (old new : CatalogRoom) : Type 0 where
  pub groups : old.groups ≤ new.groups
  pub rows : old.rows ≤ new.rows
  pub variables : old.variables ≤ new.variables
  pub variable_names : old.variable_names ≤ new.variable_names + put_count names.variables.items
  pub row_names : old.row_names ≤ new.row_names + put_count names.rows.items

-- no room is gone
pub record IsNoLess (old new : CatalogRoom) : Type 0 where
  pub groups : old.groups ≤ new.groups
  pub rows : old.rows ≤ new.rows
  pub variables : old.variables ≤ new.variables
  pub variable_names : old.variable_names ≤ new.variable_names
  pub row_names : old.row_names ≤ new.row_names

-- there is room for this number more
pub record HasRoom (more : More) (catalog : Catalog) : Type 0 where
  pub groups : length catalog.model.groups + more.groups ≤ catalog.room.groups
  pub rows : length catalog.model.rows + more.rows ≤ catalog.room.rows
  pub variables : length (variables catalog.model) + more.variables ≤ catalog.room.variables
  pub variable_names : more.variable_names ≤ catalog.room.variable_names
  pub row_names : more.row_names ≤ catalog.room.row_names
