-- What holds of each leaf and each node of a bridging holds of those that its items hold.
use Rattle.std.specs.Prelude.{◌≡◌, ℕ, Bool, true, false, cond, List, [], ◌∷◌, ◌++◌, All, Option, Some, None, flat_map, refl}
use Rattle.std.proofs.Common.{ap₂, sym, ◌∙◌}
use Rattle.std.specs.Option.{option_map_or, option_or}
use Rattle.std.proofs.lemmas.Grind.{flat_map-append}
use Rattle.std.proofs.lemmas.List.Elements.{All-append, All-nil}
use Rattle.aff_core.specs.Address.{Address}
use Rattle.expansion.specs.Bridged.{EachBridged, EachBridgedIn, each, each_in, none, none_in}
use Rattle.expansion.specs.Grown.{Held, put_held}
use Rattle.expansion.specs.GrownLaws.{held}
use Rattle.expansion.specs.Read.{leaves, leaves_in, leaves_of_each, model_leaves, model_nodes, nodes, nodes_in, nodes_of_each}
use Rattle.expansion.specs.Rules.{Rules}
use Rattle.fresh_bridging.specs.Entries.{Entry}
use Rattle.fresh_bridging.specs.FreshBridging.{FreshBridging}
use Rattle.fresh_bridging.specs.TheRules.{Setting}
use Rattle.item_core.specs.declared.item.Item.{Item}
use Rattle.local_laws.specs.Held.{held_at_each, held_at_in, held_by, held_of, is_there}
use Rattle.local_laws.specs.Views.{of_leaves}
use Rattle.map_laws.specs.EachLaws.{all_first, all_second}
use Rattle.user_model.specs.Model.{ModelValue}

-- the leaves, and the nodes, that items hold, one item after another
abbrev pub leaves_held : {setting : Setting} {model : ModelValue} → FreshBridging setting model
    → List Address → List Item
leaves_held bridging found =
    flat_map (λ at. option_map_or (λ h. h.leaves) (held_of bridging at) []) found

abbrev pub nodes_held : {setting : Setting} {model : ModelValue} → FreshBridging setting model
    → List Address → List (ℕ × Item)
nodes_held bridging found =
    flat_map (λ at. option_map_or (λ h. h.nodes) (held_of bridging at) []) found

module _ (P : Item → Type 0) (Q : ℕ × Item → Type 0) where
  abbrev pub AllHeld : Option (Held Item Entry) → Type 0
  AllHeld None = Unit {0}
  AllHeld (Some h) = All P h.leaves × All Q h.nodes

  module _ {rules : Rules Item Entry} (at : Address) where
    each_all : {items : List Item} {entries : List Entry} (trees : EachBridged rules items entries)
        → All P (leaves_of_each trees) → All Q (nodes_of_each trees)
        → AllHeld (held_at_each at trees)
    unfolding leaves nodes held_at_each
    each_all none p q = tt
    each_all (each {item} first rest) p q =
        by (is_there at item)
        (each_all rest (all_second P (leaves first) (leaves_of_each rest) p)
        (all_second Q (nodes first) (nodes_of_each rest) q))
      where
        by : (b : Bool) → AllHeld (held_at_each at rest)
            → AllHeld (cond b (Some (held first)) (held_at_each at rest))
        by true later = (
          all_first P (leaves first) (leaves_of_each rest) p,
          all_first Q (nodes first) (nodes_of_each rest) q,
        )
        by false later = later

    in_all : {inner : List Entry} {items : List Item} (trees : EachBridgedIn rules inner items)
        → All P (leaves_in trees) → All Q (nodes_in trees) → AllHeld (held_at_in at trees)
    unfolding leaves nodes held_at_in
    in_all none_in p q = tt
    in_all (each_in {inner} {item} first rest) p q =
        by (is_there at item)
        (in_all rest (all_second P (leaves first) (leaves_in rest) p)
        (all_second Q (nodes first) (nodes_in rest) q))
      where
        by : (b : Bool) → AllHeld (held_at_in at rest)
            → AllHeld (cond b (Some (put_held rules inner item (held first))) (held_at_in at rest))
        by true later = (
          all_first P (leaves first) (leaves_in rest) p,
          all_first Q (nodes first) (nodes_in rest) q,
        )
        by false later = later

  module _ {setting : Setting} {model : ModelValue} (bridging : FreshBridging setting model)
      (p : All P (model_leaves bridging.made)) (q : All Q (model_nodes bridging.made)) where
    pub held_all : (at : Address) → AllHeld (held_of bridging at)
    unfolding model_leaves model_nodes
    held_all at =
        by (held_at_each at bridging.made.groups) (held_at_in at bridging.made.others)
        (each_all at bridging.made.groups
        (all_first P (leaves_of_each bridging.made.groups) (leaves_in bridging.made.others) p)
        (all_first Q (nodes_of_each bridging.made.groups) (nodes_in bridging.made.others) q))
        (in_all at bridging.made.others
        (all_second P (leaves_of_each bridging.made.groups) (leaves_in bridging.made.others) p)
        (all_second Q (nodes_of_each bridging.made.groups) (nodes_in bridging.made.others) q))
      where
        by : (o r : Option (Held Item Entry)) → AllHeld o → AllHeld r → AllHeld (option_or o r)
        by None r h k = k
        by (Some x) r h k = h

    pub each_leaf_held : (found : List Address) → All P (leaves_held bridging found)
    each_leaf_held [] = All-nil P
    each_leaf_held (at ∷ found) =
        All-append P (option_map_or (λ h. h.leaves) (held_of bridging at) [])
        (leaves_held bridging found) (one (held_of bridging at) (held_all at))
        (each_leaf_held found)
      where
        one : (o : Option (Held Item Entry)) → AllHeld o
            → All P (option_map_or (λ (h : Held Item Entry). h.leaves) o [])
        one None h = All-nil P
        one (Some x) h = h.0

    pub each_node_held : (found : List Address) → All Q (nodes_held bridging found)
    each_node_held [] = All-nil Q
    each_node_held (at ∷ found) =
        All-append Q (option_map_or (λ h. h.nodes) (held_of bridging at) [])
        (nodes_held bridging found) (one (held_of bridging at) (held_all at))
        (each_node_held found)
      where
        one : (o : Option (Held Item Entry)) → AllHeld o
            → All Q (option_map_or (λ (h : Held Item Entry). h.nodes) o [])
        one None h = All-nil Q
        one (Some x) h = h.1

-- the entries of the leaves that are held are those that are held
pub leaves_listed : {setting : Setting} {model : ModelValue}
    (bridging : FreshBridging setting model) {X : Type 0} (f : Item → List (Address × X))
    (found : List Address)
    → held_by bridging (of_leaves f) found ≡ flat_map f (leaves_held bridging found)
leaves_listed bridging f [] = refl
leaves_listed bridging f (at ∷ found) =
    ap₂ ◌++◌ (one (held_of bridging at)) (leaves_listed bridging f found)
    ∙ sym (flat_map-append f (option_map_or (λ h. h.leaves) (held_of bridging at) [])
    (leaves_held bridging found))
  where
    one : (o : Option (Held Item Entry))
        → option_map_or (λ h. of_leaves f h.leaves h.nodes) o []
        ≡ flat_map f (option_map_or (λ (h : Held Item Entry). h.leaves) o [])
    one None = refl
    one (Some h) = refl
