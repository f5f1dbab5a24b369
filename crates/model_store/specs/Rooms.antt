-- The room that is kept for every undo that may still be taken back, and that for one more.
use Rattle.std.specs.Prelude.{◌≡◌, ℕ, ◌+◌, ◌^◌, ◌<◌, ◌≤◌, List, All, length, sum_by}
use Rattle.user_model.specs.Model.{variables}
use Rattle.model_store.specs.declared.parked.Parked.{Parked}
use Rattle.model_store.specs.declared.parking.NameCounts.{NameCounts}
use Rattle.model_store.specs.declared.parking.Reserved.{Reserved}
use Rattle.model_plans.specs.declared.plan.EditPlan.{EditPlan}
use Rattle.model_catalog.specs.Catalog.{Catalog, CatalogRoom}

-- how many names of variables, and of rows, an entry puts back at most
abbrev pub variable_count : Parked → ℕ
variable_count entry = length entry.names.variables.items

abbrev pub row_count : Parked → ℕ
row_count entry = length entry.names.rows.items

-- the counts are those of all entries together
pub record AreNamesCounted (parked : List Parked) (names : NameCounts) : Type 0 where
  pub variables : sum_by variable_count parked ≡ names.variables
  pub rows : sum_by row_count parked ≡ names.rows

-- the lengths that an entry restores are within the capacities
pub record HasLengths (room : CatalogRoom) (entry : Parked) : Type 0 where
  pub groups : entry.groups ≤ room.groups
  pub rows : entry.rows ≤ room.rows
  pub variables : entry.variables ≤ room.variables

-- there is room for each entry, for its names beside those of the others
pub record IsParked (parked : List Parked) (names : NameCounts) (room : CatalogRoom) : Type 0 where
  pub lengths : All (HasLengths room) parked
  pub counted : AreNamesCounted parked names
  pub variables : names.variables ≤ room.variable_names
  pub rows : names.rows ≤ room.row_names

-- there is room for the plan, and for an entry of its undo
pub record IsReserved (plan : EditPlan) (names : NameCounts) (reserved : Reserved)
    (catalog : Catalog) : Type 0 where
  pub groups : reserved.groups ≡ length catalog.model.groups + length plan.exchange.groups.items
  pub rows : reserved.rows ≡ length catalog.model.rows + length plan.exchange.rows.items
  pub group_room : reserved.groups ≤ catalog.room.groups
  pub row_room : reserved.rows ≤ catalog.room.rows
  pub variable_room : length (variables catalog.model) + length plan.names.variables.items
      ≤ catalog.room.variables
  pub variable_names : reserved.names.variables
      ≡ names.variables + length plan.names.variables.items
  pub row_names : reserved.names.rows ≡ names.rows + length plan.names.rows.items
  pub variable_name_room : reserved.names.variables + length plan.names.variables.items
      ≤ catalog.room.variable_names
  pub row_name_room : reserved.names.rows + length plan.names.rows.items ≤ catalog.room.row_names
  pub fits : length plan.names.variables.items + length plan.names.variables.items < 2 ^ 64
