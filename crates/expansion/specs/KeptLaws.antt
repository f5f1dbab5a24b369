-- Other choices that agree at each node and leaf make the same bridging.
use Rattle.std.specs.Prelude.{◌≡◌, List, refl}
use Rattle.std.proofs.Common.{ap₂}
use Rattle.bridge_graph.specs.declared.Choice.{Choice}
use Rattle.expansion.specs.Rules.{Rules}
use Rattle.expansion.specs.Bridged.{Bridged, EachBridged, EachBridgedIn, by, each, each_in, natively, none, none_in}
use Rattle.expansion.specs.Read.{fits, leaves, nodes}
use Rattle.expansion.specs.Kept.{KeepsChoices, KeepsEach, KeepsIn, rechosen}
use Rattle.expansion.specs.Grown.{joined, node_held, put_held}
use Rattle.expansion.specs.GrownLaws.{held, held_each, held_in}

module _ {Item Entry : Type 0} {rules : Rules Item Entry} (choice : Item → Choice) where
  mutual
    unfolding leaves nodes fits KeepsChoices

    pub rebridged : {item : Item} {entries : List Entry} (tree : Bridged rules item entries)
        → KeepsChoices choice tree
        → (other : Bridged (rechosen rules choice) item entries) × (held other ≡ held tree)
    rebridged (natively c) k = (natively k, refl)
    rebridged (by {item} {edge} {inner} c groups others) k =
        let first = rebridged_each groups k.1 in
        let rest = rebridged_in others k.2 in
        (by k.0 first.0 rest.0, ap₂ (node_held rules edge item) first.1 rest.1)

    pub rebridged_each : {items : List Item} {entries : List Entry}
        (trees : EachBridged rules items entries) → KeepsEach choice trees
        → (others : EachBridged (rechosen rules choice) items entries)
        × (held_each others ≡ held_each trees)
    rebridged_each none k = (none, refl)
    rebridged_each (each first rest) k =
        let one = rebridged first k.0 in
        let more = rebridged_each rest k.1 in
        (each one.0 more.0, ap₂ joined one.1 more.1)

    pub rebridged_in : {inner : List Entry} {items : List Item}
        (trees : EachBridgedIn rules inner items) → KeepsIn choice trees
        → (others : EachBridgedIn (rechosen rules choice) inner items)
        × (held_in others ≡ held_in trees)
    rebridged_in none_in k = (none_in, refl)
    rebridged_in (each_in {inner} {item} first rest) k =
        let one = rebridged first k.0 in
        let more = rebridged_in rest k.1 in
        (each_in one.0 more.0, ap₂ (λ f r. joined (put_held rules inner item f) r) one.1 more.1)
