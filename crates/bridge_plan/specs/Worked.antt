-- What stands at and below an item, worked out by its choices down to a depth.
use Rattle.std.specs.Prelude.{ℕ, zero, suc, List, [], ◌∷◌, All}
use Rattle.bridge_graph.specs.declared.Choice.{Choice}
use Rattle.bridge_graph.specs.declared.Choice.TheVariants.{By, Missing, Native}
use Rattle.expansion.specs.Grown.{Held, joined, native_held, node_held, nothing_held, put_held}
use Rattle.item_core.specs.declared.item.Item.{Item}
use Rattle.item_core.specs.Kind.{kind_number}
use Rattle.item_core.specs.KindOf.{kind_of_body}
use Rattle.bridge_face.specs.Law.{IsItemFor}
use Rattle.fresh_bridging.specs.Entries.{Entry, put_in}
use Rattle.fresh_bridging.specs.TheRules.{children_by, edge_at, rules_by}

module _ (choice : ℕ → Choice) where
  module _ (below : Item → Held Item Entry) where
    unfoldable pub worked_each : List Item → Held Item Entry
    worked_each [] = nothing_held
    worked_each (item ∷ items) = joined (below item) (worked_each items)

    unfoldable pub worked_in : List Entry → List Item → Held Item Entry
    worked_in inner [] = nothing_held
    worked_in inner (item ∷ items) =
        joined (put_held (rules_by choice) inner item (below (put_in inner item)))
        (worked_in inner items)

    -- a node by an edge
    abbrev pub worked_node : ℕ → Item → Held Item Entry
    worked_node edge item =
        let groups = worked_each (children_by edge item).groups in
        node_held (rules_by choice) edge item groups
        (worked_in groups.entries (children_by edge item).others)

    unfoldable pub worked_by : Choice → Item → Held Item Entry
    worked_by Native item = native_held (rules_by choice) item
    worked_by (By edge) item = worked_node edge item
    worked_by Missing item = nothing_held

  unfoldable pub worked : ℕ → Item → Held Item Entry
  worked zero item = nothing_held
  worked (suc n) item = worked_by (worked n) (choice (kind_number (kind_of_body item.body))) item

  -- ---- where that is all

  -- an item is for the edge, and what the edge makes of it are items that P has
  pub record Splits (below : Item → Held Item Entry) (P : Item → Type 0) (edge : ℕ)
      (item : Item) : Type 0 where
    pub suits : IsItemFor (edge_at edge) item
    pub groups : All P (children_by edge item).groups
    pub others :
        All (λ child. P (put_in (worked_each below (children_by edge item).groups).entries child))
        (children_by edge item).others

  unfoldable pub StandsBy : (Item → Held Item Entry) → (Item → Type 0) → Choice → Item → Type 0
  StandsBy below P Native item = Unit {0}
  StandsBy below P (By edge) item = Splits below P edge item
  StandsBy below P Missing item = ⊥

  -- the item and all below it are valid and have choices, no deeper than a number
  unfoldable pub IsItemWithinLevels : ℕ → Item → Type 0
  IsItemWithinLevels zero item = ⊥
  IsItemWithinLevels (suc n) item =
      StandsBy (worked n) (IsItemWithinLevels n) (choice (kind_number (kind_of_body item.body))) item
