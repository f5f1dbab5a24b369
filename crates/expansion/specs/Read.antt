-- What a bridging holds: the leaves that the solver is given, the nodes between, and whether every
-- number fits.
use Rattle.std.specs.Prelude.{ℕ, Bool, true, ◌&&◌, List, [], ◌∷◌, ◌++◌, Option, Some, None, if◌then◌else◌}
use Rattle.expansion.specs.Rules.{Rules}
use Rattle.expansion.specs.Bridged.{Bridged, EachBridged, EachBridgedIn, Fresh, by, each, each_in, natively, none, none_in}

module _ {Item Entry : Type 0} {rules : Rules Item Entry} where
  unfoldable mutual
    -- the native items, as they stand once expressions are put in
    pub leaves : {item : Item} {entries : List Entry} → Bridged rules item entries → List Item
    leaves (natively {item} c) = item ∷ []
    leaves (by c groups others) = leaves_of_each groups ++ leaves_in others

    pub leaves_of_each : {items : List Item} {entries : List Entry}
        → EachBridged rules items entries → List Item
    leaves_of_each none = []
    leaves_of_each (each first rest) = leaves first ++ leaves_of_each rest

    pub leaves_in : {inner : List Entry} {items : List Item} → EachBridgedIn rules inner items
        → List Item
    leaves_in none_in = []
    leaves_in (each_in first rest) = leaves first ++ leaves_in rest

  unfoldable mutual
    -- the bridged items with their edges
    pub nodes : {item : Item} {entries : List Entry} → Bridged rules item entries → List (ℕ × Item)
    nodes (natively c) = []
    nodes (by {item} {edge} c groups others) =
        (edge, item) ∷ (nodes_of_each groups ++ nodes_in others)

    pub nodes_of_each : {items : List Item} {entries : List Entry} → EachBridged rules items entries
        → List (ℕ × Item)
    nodes_of_each none = []
    nodes_of_each (each first rest) = nodes first ++ nodes_of_each rest

    pub nodes_in : {inner : List Entry} {items : List Item} → EachBridgedIn rules inner items
        → List (ℕ × Item)
    nodes_in none_in = []
    nodes_in (each_in first rest) = nodes first ++ nodes_in rest

  unfoldable mutual
    -- each number that the bridging is made with fits
    pub fits : {item : Item} {entries : List Entry} → Bridged rules item entries → Bool
    fits (natively c) = true
    fits (by {item} {edge} {inner} c groups others) =
        rules.image_fits edge item
        && (fits_each groups && (rules.outer_fits edge item inner && fits_in others))

    pub fits_each : {items : List Item} {entries : List Entry} → EachBridged rules items entries
        → Bool
    fits_each none = true
    fits_each (each first rest) = fits first && fits_each rest

    pub fits_in : {inner : List Entry} {items : List Item} → EachBridgedIn rules inner items → Bool
    fits_in none_in = true
    fits_in (each_in {inner} {item} first rest) =
        (rules.put_in_fits inner item && fits first) && fits_in rest

  -- the first of the items that doesn't fit
  unfoldable pub unfit_each : {items : List Item} {entries : List Entry}
      → EachBridged rules items entries → Option Item
  unfit_each none = None
  unfit_each (each {item} first rest) = if fits first then unfit_each rest else Some item

  -- the first item that doesn't fit as it stands with the expressions put in
  unfoldable pub unfit_in : {inner : List Entry} {items : List Item}
      → EachBridgedIn rules inner items → Option Item
  unfit_in none_in = None
  unfit_in (each_in {inner} {item} first rest) =
      if rules.put_in_fits inner item && fits first then unfit_in rest else Some item

  -- of a model: the leaves and the nodes of its groups, and then of its rows and its objective
  unfoldable pub model_leaves : {model : _} → Fresh rules model → List Item
  model_leaves fresh = leaves_of_each fresh.groups ++ leaves_in fresh.others

  unfoldable pub model_nodes : {model : _} → Fresh rules model → List (ℕ × Item)
  model_nodes fresh = nodes_of_each fresh.groups ++ nodes_in fresh.others
