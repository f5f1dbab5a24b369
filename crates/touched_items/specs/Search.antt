-- What a search finds: addresses in their order, and what stands there.
--     AreInOrder           the addresses of a list in their order, each once
--     row_at               the row at an address
--     objective_among      the objective, where its address is one of these
use Rattle.std.specs.Prelude.{◌↔◌, Bool, cond, List, Contains, Option, Some, None}
use Rattle.std.specs.List.{list_any}
use Rattle.std.specs.List.Sorted.{IsStrictlySortedBy}
use Rattle.aff_core.specs.Address.{Address, address_cmp, address_eq, root_address}
use Rattle.aff_core.specs.declared.root.Root.TheVariants as root
use Rattle.numbered_list.specs.Numbered.{find}
use Rattle.user_model.specs.Edited.{row_number}
use Rattle.user_model.specs.Model.{ModelValue}
use Rattle.user_model.specs.declared.objective.Objective.{Objective}
use Rattle.user_model.specs.declared.row.Row.{Row}

pub record AreInOrder (listed addresses : List Address) : Type 0 where
  pub rising : IsStrictlySortedBy address_cmp addresses
  pub same : (at : Address) → Contains addresses at ↔ Contains listed at

abbrev pub is_row : Address → Bool
is_row at = address_eq at (root_address root.Row at.number)

abbrev pub is_objective : Address → Bool
is_objective at = address_eq at (root_address root.Objective 0)

abbrev pub row_at : ModelValue → Address → Option Row
row_at model at = cond (is_row at) (find row_number at.number model.rows) None

abbrev pub objective_among : ModelValue → List Address → Option Objective
objective_among model ats = cond (list_any is_objective ats) (Some model.objective) None
