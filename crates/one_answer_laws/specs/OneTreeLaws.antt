-- An item has one bridging at most: any two of it are the same, with the same expressions, and so
-- are any two of a model.
use Rattle.std.specs.Coded.{Coded-set, code_by, coded_option, coded_ℕ}
use Rattle.std.specs.Prelude.{◌≡◌, ℕ, List, Option, Some, None, refl}
use Rattle.std.proofs.Common.{sym, ap₂, ap, ◌∙◌, subst}
use Rattle.bridge_graph.specs.declared.Choice.{Choice}
use Rattle.bridge_graph.specs.declared.Choice.TheVariants.{By, Missing, Native}
use Rattle.expansion.specs.Bridged.{Bridged, EachBridged, EachBridgedIn, Fresh, by, each, each_in, natively, none, none_in}
use Rattle.expansion.specs.Rules.{ItemChildren, Rules}

-- ---- that two choices are the same is a fact alone

abbrev as_option : Choice → Option (Option ℕ)
as_option Native = None
as_option (By edge) = Some (Some edge)
as_option Missing = Some None

abbrev as_choice : Option (Option ℕ) → Choice
as_choice None = Native
as_choice (Some (Some edge)) = By edge
as_choice (Some None) = Missing

choice_back : (choice : Choice) → as_choice (as_option choice) ≡ choice
choice_back Native = refl
choice_back (By edge) = refl
choice_back Missing = refl

choice_set : IsSet Choice
choice_set = Coded-set (code_by (Option (Option ℕ)) (coded_option (coded_option coded_ℕ)) as_option
    as_choice choice_back)

edge_of : {choice : Choice} {edge other : ℕ} → choice ≡ By edge → choice ≡ By other → edge ≡ other
edge_of c d = cc

-- ---- items

module _ {Item Entry : Type 0} (rules : Rules Item Entry) where
  -- a bridging with its expressions
  abbrev Whole : Item → Type 0
  Whole item = (entries : List Entry) × Bridged rules item entries

  abbrev EachWhole : List Item → Type 0
  EachWhole items = (entries : List Entry) × EachBridged rules items entries

  abbrev whole : {item : Item} {entries : List Entry} → Bridged rules item entries → Whole item
  whole {entries = entries} tree = (entries, tree)

  abbrev each_whole : {items : List Item} {entries : List Entry} → EachBridged rules items entries
      → EachWhole items
  each_whole {entries = entries} trees = (entries, trees)

  module _ (item : Item) (edge : ℕ) (c : rules.choice item ≡ By edge) (inner : List Entry)
      (groups : EachBridged rules (rules.image edge item).groups inner)
      (others : EachBridgedIn rules inner (rules.image edge item).others)
      (groups_once : (gs : EachWhole (rules.image edge item).groups) → (inner, groups) ≡ gs)
      (others_once : (os : EachBridgedIn rules inner (rules.image edge item).others)
      → others ≡ os) where
    by_edge : (d : rules.choice item ≡ By edge) (gs : EachWhole (rules.image edge item).groups)
        (os : EachBridgedIn rules gs.0 (rules.image edge item).others)
        → whole (by c groups others) ≡ whole (by d gs.1 os)
    by_edge d gs =
        subst
        (λ (x : EachWhole (rules.image edge item).groups).
        (os : EachBridgedIn rules x.0 (rules.image edge item).others)
        → whole (by c groups others) ≡ whole (by d x.1 os))
        (groups_once gs)
        (λ os. ap₂ (λ e o. whole (by e groups o)) (choice_set _ _ c d) (others_once os))

    by_same : (other : ℕ) → edge ≡ other → (d : rules.choice item ≡ By other)
        (gs : EachWhole (rules.image other item).groups)
        (os : EachBridgedIn rules gs.0 (rules.image other item).others)
        → whole (by c groups others) ≡ whole (by d gs.1 os)
    by_same other same =
        subst
        (λ f. (d : rules.choice item ≡ By f) (gs : EachWhole (rules.image f item).groups)
        (os : EachBridgedIn rules gs.0 (rules.image f item).others)
        → whole (by c groups others) ≡ whole (by d gs.1 os))
        same by_edge

  mixed : {item : Item} {edge : ℕ} {A : Type 0} → rules.choice item ≡ Native
      → rules.choice item ≡ By edge → A
  mixed c d = absurd (apart (sym c ∙ d))
    where
      apart : {edge : ℕ} → Native ≡ By edge → ⊥
      apart e = cc

  mutual
    pub tree_once : {item : Item} {es fs : List Entry} (tree : Bridged rules item es)
        (other : Bridged rules item fs)
        → whole tree ≡ whole other
    tree_once (natively {item} c) (natively d) =
        ap (λ e. whole (natively {item = item} e)) (choice_set _ _ c d)
    tree_once (natively c) (by d groups others) = mixed c d
    tree_once (by c groups others) (natively d) = mixed d c
    tree_once (by {item} {edge} {inner} c groups others)
        (by {edge = other} {inner = after} d gs os) =
        by_same item edge c inner groups others (λ gs. trees_once groups gs.1)
        (λ os. trees_in_once others os) other (edge_of c d) d (after, gs) os

    pub trees_once : {items : List Item} {es fs : List Entry} (trees : EachBridged rules items es)
        (others : EachBridged rules items fs) → each_whole trees ≡ each_whole others
    trees_once none none = refl
    trees_once (each first rest) (each other more) =
        ap₂ (λ x y. each_whole (each x.1 y.1)) (tree_once first other) (trees_once rest more)

    pub trees_in_once : {inner : List Entry} {items : List Item}
        (trees others : EachBridgedIn rules inner items)
        → trees ≡ others
    trees_in_once none_in none_in = refl
    trees_in_once (each_in first rest) (each_in other more) =
        ap₂ (λ x y. each_in x.1 y) (tree_once first other) (trees_in_once rest more)

  -- ---- a model

  pub fresh_once : {model : ItemChildren Item} (one other : Fresh rules model) → one ≡ other
  fresh_once {model} one other =
      subst
      (λ (x : EachWhole model.groups). (os : EachBridgedIn rules x.0 model.others)
      → one ≡ record { entries = x.0; groups = x.1; others = os })
      (trees_once one.groups other.groups)
      (λ os. ap
      (λ o. record { entries = one.entries; groups = one.groups; others = o })
      (trees_in_once one.others os)) other.others
