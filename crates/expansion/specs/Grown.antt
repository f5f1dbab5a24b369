-- A bridging worked out to a depth: what every bridging of the item holds, where one is no deeper.
use Rattle.std.specs.Prelude.{ℕ, zero, suc, Bool, true, ◌&&◌, List, [], ◌∷◌, ◌++◌, Option, Some, None}
use Rattle.std.specs.Option.{option_and_then}
use Rattle.bridge_graph.specs.declared.Choice.{Choice}
use Rattle.bridge_graph.specs.declared.Choice.TheVariants.{By, Missing, Native}
use Rattle.expansion.specs.Rules.{Rules}

-- what a bridging holds of one item, or of several
pub record Held (Item Entry : Type 0) : Type 0 where
  pub entries : List Entry
  pub leaves : List Item
  pub nodes : List (ℕ × Item)
  pub fits : Bool

abbrev pub nothing_held : {Item Entry : Type 0} → Held Item Entry
nothing_held = record { entries = []; leaves = []; nodes = []; fits = true }

-- one after the other
abbrev pub joined : {Item Entry : Type 0} → Held Item Entry → Held Item Entry → Held Item Entry
joined a b = record {
  entries = a.entries ++ b.entries;
  leaves = a.leaves ++ b.leaves;
  nodes = a.nodes ++ b.nodes;
  fits = a.fits && b.fits;
}

module _ {Item Entry : Type 0} (rules : Rules Item Entry) where
  abbrev pub native_held : Item → Held Item Entry
  native_held item = record {
    entries = rules.own item;
    leaves = item ∷ [];
    nodes = [];
    fits = true;
  }

  -- the node of an item by an edge, over its child groups and its further children
  abbrev pub node_held : ℕ → Item → Held Item Entry → Held Item Entry → Held Item Entry
  node_held edge item groups others = record {
    entries = rules.outer edge item groups.entries;
    leaves = groups.leaves ++ others.leaves;
    nodes = (edge, item) ∷ (groups.nodes ++ others.nodes);
    fits = rules.image_fits edge item
        && (groups.fits && (rules.outer_fits edge item groups.entries && others.fits));
  }

  -- what is held of a further child: no components, and the making of the child is to fit as well
  abbrev pub put_held : List Entry → Item → Held Item Entry → Held Item Entry
  put_held inner item held =
      record held { entries = []; fits = rules.put_in_fits inner item && held.fits }

  -- ---- worked out to a depth

  module _ (below : Item → Option (Held Item Entry)) where
    unfoldable pub grown_each : List Item → Option (Held Item Entry)
    grown_each [] = Some nothing_held
    grown_each (item ∷ items) =
        option_and_then (λ first. option_and_then (λ rest. Some (joined first rest))
        (grown_each items)) (below item)

    unfoldable pub grown_in : List Entry → List Item → Option (Held Item Entry)
    grown_in inner [] = Some nothing_held
    grown_in inner (item ∷ items) =
        option_and_then
        (λ first. option_and_then (λ rest. Some (joined (put_held inner item first) rest))
        (grown_in inner items))
        (below (rules.put_in inner item))

    unfoldable pub grown_by : Choice → Item → Option (Held Item Entry)
    grown_by Native item = Some (native_held item)
    grown_by (By edge) item =
        option_and_then
        (λ groups. option_and_then
        (λ others. Some (node_held edge item groups others))
        (grown_in groups.entries (rules.image edge item).others))
        (grown_each (rules.image edge item).groups)
    grown_by Missing item = None

  -- what stands at and below an item, no deeper than a number
  unfoldable pub grown : ℕ → Item → Option (Held Item Entry)
  grown zero item = None
  grown (suc n) item = grown_by (grown n) (rules.choice item) item
