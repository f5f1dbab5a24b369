-- The addresses that stand in a bridging: those of its leaves and those of its nodes.
use Rattle.std.specs.Prelude.{◌⊎◌, cond, List, [], ◌++◌, Contains}
use Rattle.aff_core.specs.Address.{Address}
use Rattle.expansion.specs.Bridged.{Bridged, EachBridged, EachBridgedIn, by, each, each_in, natively, none, none_in}
use Rattle.expansion.specs.Rules.{Rules}
use Rattle.item_core.specs.declared.item.Item.{Item}
use Rattle.item_core.specs.Item.{is_group, variables_of}
use Rattle.fresh_bridging.specs.Entries.{Entry}
use Rattle.fresh_bridging.specs.OmitLaws.{IsBelow}

-- the variables that a group has of its own, and none of another item
abbrev pub own : Item → List Address
own item = cond (is_group item.body) (variables_of item.body) []

-- an address at or below the item's, or a variable of its own
abbrev pub Mine : Item → Address → Type 0
Mine item v = IsBelow item.at v ⊎ Contains (own item) v

-- the addresses that each leaf and each node has, one after another
module _ {rules : Rules Item Entry} (of_leaf of_node : Item → List Address) where
  unfoldable mutual
    pub keys : {item : Item} {entries : List Entry} → Bridged rules item entries → List Address
    keys (natively {item} c) = of_leaf item
    keys (by {item} c groups others) = of_node item ++ (keys_of_each groups ++ keys_in others)

    pub keys_of_each : {items : List Item} {entries : List Entry}
        → EachBridged rules items entries → List Address
    keys_of_each none = []
    keys_of_each (each first rest) = keys first ++ keys_of_each rest

    pub keys_in : {inner : List Entry} {items : List Item} → EachBridgedIn rules inner items
        → List Address
    keys_in none_in = []
    keys_in (each_in first rest) = keys first ++ keys_in rest
