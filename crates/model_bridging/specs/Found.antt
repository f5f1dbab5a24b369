-- Some of the user's items: rows with, if it is one of them, the objective; and what groups tell of
-- their variables.
use Rattle.std.specs.Prelude.{ℕ, Bool, ◌++◌, cond, List, [], ◌∷◌, Option, map}
use Rattle.std.specs.List.{list_any}
use Rattle.std.specs.Option.{option_map_or}
use Rattle.bridge_graph.specs.declared.Choice.{Choice}
use Rattle.aff_core.specs.Address.{Address, address_eq}
use Rattle.item_core.specs.declared.item.Item.{Item}
use Rattle.item_core.specs.Item.{variables_of}
use Rattle.item_core.specs.KindOf.{kind_of_body}
use Rattle.user_model.specs.declared.objective.Objective.{Objective}
use Rattle.user_model.specs.declared.row.Row.{Row}
use Rattle.fresh_bridging.specs.ModelImage.{objective_items, row_item}
use Rattle.bridge_plan.specs.KeptGroups.{keeps}

abbrev pub found_others : List Row → Option Objective → List Item
found_others rows objective = map row_item rows ++ option_map_or objective_items objective []

-- a variable of one of the groups is kept as the first such group's kind says, and of any other it
-- is known otherwise
unfoldable pub kept_over : (ℕ → Choice) → (Address → Bool) → List Item → Address → Bool
kept_over choice otherwise [] v = otherwise v
kept_over choice otherwise (group ∷ groups) v =
    cond (list_any (λ u. address_eq u v) (variables_of group.body))
    (keeps choice (kind_of_body group.body)) (kept_over choice otherwise groups v)
