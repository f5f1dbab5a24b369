-- What is known of items when they are bridged.
use Rattle.std.specs.Prelude.{ℕ, Bool, List}
use Rattle.bridge_graph.specs.declared.Choice.{Choice}

-- what an edge makes of an item: its child groups, and then its further children, the rows and the
-- objective
pub record ItemChildren (Item : Type 0) : Type 0 where
  pub groups : List Item
  pub others : List Item

-- how items are chosen for and rewritten; an entry is a component of a group with its expression
pub record Rules (Item Entry : Type 0) : Type 0 where
  -- native, the edge that rewrites the item, or neither
  pub choice : Item → Choice
  pub image : ℕ → Item → ItemChildren Item
  -- an item's components by themselves, where it is native
  pub own : Item → List Entry
  -- an item's components by those of the child groups of an edge
  pub outer : ℕ → Item → List Entry → List Entry
  -- an item with these expressions in place of their components
  pub put_in : List Entry → Item → Item
  -- each number that the image, the components and the item with expressions put in are made with
  -- fits
  pub image_fits : ℕ → Item → Bool
  pub outer_fits : ℕ → Item → List Entry → Bool
  pub put_in_fits : List Entry → Item → Bool
