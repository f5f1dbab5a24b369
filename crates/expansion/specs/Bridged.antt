-- An item with all that stands below it: natively, or by an edge with its child groups and, their
-- expressions put in, its further children.
use Rattle.std.specs.Prelude.{◌≡◌, ℕ, List, [], ◌∷◌, ◌++◌}
use Rattle.bridge_graph.specs.declared.Choice.TheVariants.{By, Native}
use Rattle.expansion.specs.Rules.{ItemChildren, Rules}

mutual
  -- the item is bridged, and these are the expressions of its components
  pub data Bridged {Item Entry : Type 0} (rules : Rules Item Entry) : Item → List Entry
      → Type 0 where
    natively : {item : Item} → rules.choice item ≡ Native → Bridged rules item (rules.own item)
    by : {item : Item} {edge : ℕ} {inner : List Entry} → rules.choice item ≡ By edge
        → EachBridged rules (rules.image edge item).groups inner
        → EachBridgedIn rules inner (rules.image edge item).others
        → Bridged rules item (rules.outer edge item inner)

  -- items one after another, and the expressions of all their components
  pub data EachBridged {Item Entry : Type 0} (rules : Rules Item Entry) : List Item → List Entry
      → Type 0 where
    none : EachBridged rules [] []
    each : {item : Item} {items : List Item} {entries others : List Entry}
        → Bridged rules item entries → EachBridged rules items others
        → EachBridged rules (item ∷ items) (entries ++ others)

  -- items one after another, each with these expressions put in
  pub data EachBridgedIn {Item Entry : Type 0} (rules : Rules Item Entry) : List Entry → List Item
      → Type 0 where
    none_in : {inner : List Entry} → EachBridgedIn rules inner []
    each_in : {inner : List Entry} {item : Item} {items : List Item} {entries : List Entry}
        → Bridged rules (rules.put_in inner item) entries → EachBridgedIn rules inner items
        → EachBridgedIn rules inner (item ∷ items)

-- a model, bridged: its groups, and with their expressions put in its rows and its objective
pub record Fresh {Item Entry : Type 0} (rules : Rules Item Entry)
    (model : ItemChildren Item) : Type 0 where
  pub entries : List Entry
  pub groups : EachBridged rules model.groups entries
  pub others : EachBridgedIn rules entries model.others
