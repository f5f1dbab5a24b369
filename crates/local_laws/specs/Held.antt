-- What a bridging holds of the user's items: the leaves and nodes below each, what stands for its
-- components, and whether its numbers fit.
--     held_of      what it holds of the item at an address
--     held_by      the leaves or the nodes that it holds of some items, one after another
--     fits_at      the numbers of the item at an address fit, or none stands there
use Rattle.std.specs.Prelude.{Bool, true, cond, List, [], Contains, flat_map, Option, Some, None}
use Rattle.std.specs.Option.{option_map_or, option_or}
use Rattle.aff_core.specs.Address.{Address, address_eq}
use Rattle.expansion.specs.Bridged.{EachBridged, EachBridgedIn, each, each_in, none, none_in}
use Rattle.expansion.specs.Grown.{Held, put_held}
use Rattle.expansion.specs.GrownLaws.{held}
use Rattle.expansion.specs.Rules.{Rules}
use Rattle.fresh_bridging.specs.Entries.{Entry, expression_in}
use Rattle.fresh_bridging.specs.FreshBridging.{FreshBridging}
use Rattle.fresh_bridging.specs.TheRules.{Setting}
use Rattle.item_core.specs.Item.{variables_of}
use Rattle.item_core.specs.declared.image.Expression.{Expression}
use Rattle.item_core.specs.declared.image.Expression.TheVariants.{Kept}
use Rattle.item_core.specs.declared.item.Item.{Item}
use Rattle.user_model.specs.Model.{ModelValue}
use Rattle.local_laws.specs.Views.{Part}

-- the item stands at the address
abbrev pub is_there : Address → Item → Bool
is_there at item = address_eq item.at at

module _ {rules : Rules Item Entry} (at : Address) where
  unfoldable pub held_at_each : {items : List Item} {entries : List Entry}
      → EachBridged rules items entries → Option (Held Item Entry)
  held_at_each none = None
  held_at_each (each {item} first rest) =
      cond (is_there at item) (Some (held first)) (held_at_each rest)

  -- of a further child that the making of it fits as well
  unfoldable pub held_at_in : {inner : List Entry} {items : List Item}
      → EachBridgedIn rules inner items → Option (Held Item Entry)
  held_at_in none_in = None
  held_at_in (each_in {inner} {item} first rest) =
      cond (is_there at item) (Some (put_held rules inner item (held first))) (held_at_in rest)

-- what a bridging holds of the user's item at an address
abbrev pub held_of : {setting : Setting} {model : ModelValue} → FreshBridging setting model
    → Address → Option (Held Item Entry)
held_of bridging at =
    option_or (held_at_each at bridging.made.groups) (held_at_in at bridging.made.others)

-- what some of the user's items hold, one after another
abbrev pub held_by : {setting : Setting} {model : ModelValue} {X : Type 0}
    → FreshBridging setting model → Part X → List Address → List (Address × X)
held_by bridging part found =
    flat_map (λ at. option_map_or (λ h. part h.leaves h.nodes) (held_of bridging at) []) found

-- what stands for a variable by what is held
abbrev pub expressed_at : Option (Held Item Entry) → Address → Expression
expressed_at found v = option_map_or (λ h. expression_in h.entries v) found (Kept v)

-- a variable that the item has of its own
abbrev pub HasOwn : Address → Item → Type 0
HasOwn v item = Contains (variables_of item.body) v

-- what is held at an address fits, or nothing is held
abbrev pub fit : Option (Held Item Entry) → Bool
fit found = option_map_or (λ h. h.fits) found true

abbrev pub fits_at : {setting : Setting} {model : ModelValue} → FreshBridging setting model
    → Address → Bool
fits_at bridging at = fit (held_of bridging at)
