-- When every item can be bridged: none lacks a choice, and what stands below has a lower rank.
use Rattle.std.specs.Prelude.{◌≡◌, ◌≢◌, ℕ, ◌<◌, List, All}
use Rattle.bridge_graph.specs.declared.Choice.TheVariants.{By, Missing}
use Rattle.expansion.specs.Bridged.{EachBridged}
use Rattle.expansion.specs.Rules.{Rules}

-- the item is of those that can be bridged, and ranks below a number
pub record RanksBelow {Item : Type 0} (Can : Item → Type 0) (rank : Item → ℕ) (bound : ℕ)
    (item : Item) : Type 0 where
  pub can : Can item
  pub below : rank item < bound

-- of the items that `Can` has each is native or has an edge, and all that it makes ranks below it,
-- the expressions of its groups put in
pub record IsRanked {Item Entry : Type 0} (rules : Rules Item Entry) (Can : Item → Type 0)
    (rank : Item → ℕ) : Type 0 where
  pub chosen : (item : Item) → Can item → rules.choice item ≢ Missing
  pub groups : (item : Item) (edge : ℕ) → Can item → rules.choice item ≡ By edge
      → All (RanksBelow Can rank (rank item)) (rules.image edge item).groups
  pub others : (item : Item) (edge : ℕ) (inner : List Entry) → Can item
      → rules.choice item ≡ By edge
      → EachBridged rules (rules.image edge item).groups inner
      → All (λ child. RanksBelow Can rank (rank item) (rules.put_in inner child))
      (rules.image edge item).others
