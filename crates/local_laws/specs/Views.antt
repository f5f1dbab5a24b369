-- What is read of leaves and nodes by address: their entries, whose keys are those of the tree.
use Rattle.std.specs.Prelude.{◌≡◌, ℕ, All, List, [], ◌∷◌, ◌++◌, flat_map, map, Option, Some, option_and_then, refl}
use Rattle.std.proofs.Common.{sym, ◌∙◌}
use Rattle.std.specs.Option.{option_or}
use Rattle.std.specs.BTreeMap.{is_at}
use Rattle.std.specs.Map.{keys_of, lookup}
use Rattle.std.proofs.lemmas.Grind.{flat_map-append}
use Rattle.std.proofs.lemmas.List.{map-append}
use Rattle.std.proofs.lemmas.List.Elements.{All-nil, All-weaker}
use Rattle.std.specs.Prelude.{Bool, true, false, cond}
use Rattle.expansion.specs.Bridged.{Bridged, EachBridged, EachBridgedIn}
use Rattle.expansion.specs.Grown.{Held}
use Rattle.expansion.specs.Read.{leaves, leaves_in, leaves_of_each, nodes, nodes_in, nodes_of_each}
use Rattle.expansion.specs.Rules.{Rules}
use Rattle.aff_core.specs.Address.{Address, address_cmp}
use Rattle.item_core.specs.declared.item.Item.{Item}
use Rattle.fresh_bridging.specs.Entries.{Entry}
use Rattle.fresh_bridging.specs.Leaves.{leaf_objectives, leaf_rows, leaf_variables}
use Rattle.address_laws.specs.KeyLaws.{AreKeys, itself_below}
use Rattle.fresh_bridging.specs.OmitLaws.{IsBelow}
use Rattle.address_laws.specs.Keys.{keys, keys_in, keys_of_each}
use Rattle.address_laws.specs.LeafKeys.{alone_are, its_key, keys_of-flat_map, keys_of_nodes, leaf_keys, leaf_keys_in, leaf_keys_of_each, leaf_variables_are, no_keys, node_keys, node_keys_in, node_keys_of_each, nodes_are, objective_keys, objectives_alone, row_keys, rows_alone}

-- entries of leaves and nodes
abbrev pub Part : Type 0 → Type 0
Part X = List Item → List (ℕ × Item) → List (Address × X)

pub record IsView {X : Type 0} (part : Part X) : Type 0 where
  pub of_leaf : Item → List Address
  pub of_node : Item → List Address
  pub are : AreKeys of_leaf of_node
  pub nothing : part [] [] ≡ []
  pub joins :
      (ls ms : List Item) (ns os : List (ℕ × Item))
      → part (ls ++ ms) (ns ++ os) ≡ part ls ns ++ part ms os
  pub tree :
      (rules : Rules Item Entry) (item : Item) (entries : List Entry)
      (t : Bridged rules item entries)
      → keys_of (part (leaves t) (nodes t)) ≡ keys of_leaf of_node t
  pub each :
      (rules : Rules Item Entry) (items : List Item) (entries : List Entry)
      (t : EachBridged rules items entries)
      → keys_of (part (leaves_of_each t) (nodes_of_each t)) ≡ keys_of_each of_leaf of_node t
  pub further :
      (rules : Rules Item Entry) (inner : List Entry) (items : List Item)
      (t : EachBridgedIn rules inner items)
      → keys_of (part (leaves_in t) (nodes_in t)) ≡ keys_in of_leaf of_node t

abbrev pub of_leaves : {X : Type 0} → (Item → List (Address × X)) → Part X
of_leaves f ls ns = flat_map f ls

-- nodes, each at the address of its item
abbrev pub by_address : List (ℕ × Item) → List (Address × (ℕ × Item))
by_address ns = map (λ n. (n.1.at, n)) ns

abbrev pub of_nodes : Part (ℕ × Item)
of_nodes ls ns = by_address ns

pub leaves_view : {X : Type 0} (f : Item → List (Address × X))
    → AreKeys (λ i. keys_of (f i)) no_keys → IsView (of_leaves f)
leaves_view f are = record {
  of_leaf = λ i. keys_of (f i);
  of_node = no_keys;
  are = are;
  nothing = refl;
  joins = λ ls ms ns os. flat_map-append f ls ms;
  tree = λ rules item entries t.
      keys_of-flat_map f (leaves t) ∙ sym (leaf_keys (λ i. keys_of (f i)) t);
  each = λ rules items entries t.
      keys_of-flat_map f (leaves_of_each t) ∙ sym (leaf_keys_of_each (λ i. keys_of (f i)) t);
  further = λ rules inner items t.
      keys_of-flat_map f (leaves_in t) ∙ sym (leaf_keys_in (λ i. keys_of (f i)) t);
}

pub rows_view : IsView (of_leaves leaf_rows)
rows_view = leaves_view leaf_rows (alone_are row_keys rows_alone)

pub objectives_view : IsView (of_leaves leaf_objectives)
objectives_view = leaves_view leaf_objectives (alone_are objective_keys objectives_alone)

pub variables_view : IsView (of_leaves leaf_variables)
variables_view = leaves_view leaf_variables leaf_variables_are

pub nodes_view : IsView of_nodes
nodes_view = record {
  of_leaf = no_keys;
  of_node = its_key;
  are = nodes_are;
  nothing = refl;
  joins = λ ls ms ns os. map-append (λ n. (n.1.at, n)) ns os;
  tree = λ rules item entries t. keys_of_nodes (nodes t) ∙ sym (node_keys t);
  each = λ rules items entries t. keys_of_nodes (nodes_of_each t) ∙ sym (node_keys_of_each t);
  further = λ rules inner items t. keys_of_nodes (nodes_in t) ∙ sym (node_keys_in t);
}

-- ---- but for variables, each is at or below its item's address

pub nodes_low : (item : Item) → All (IsBelow item.at) (nodes_view.of_leaf item)
unfolding nodes_view
nodes_low item = All-nil (IsBelow item.at)

itself_low : (item : Item) (ks : List Address) → All (λ k. k ≡ item.at) ks
    → All (IsBelow item.at) ks
itself_low item ks h =
    All-weaker (λ k. k ≡ item.at) (IsBelow item.at)
    (λ k e. record { rest = []; is = e ∙ itself_below item.at }) ks h

pub rows_low : (item : Item) → All (IsBelow item.at) (rows_view.of_leaf item)
unfolding rows_view leaves_view
rows_low item = itself_low item (row_keys item) (rows_alone item).here

pub objectives_low : (item : Item) → All (IsBelow item.at) (objectives_view.of_leaf item)
unfolding objectives_view leaves_view
objectives_low item = itself_low item (objective_keys item) (objectives_alone item).here

-- ---- looked up

module _ {X : Type 0} (q : Address) where
  abbrev pub look : List (Address × X) → Option X
  look es = lookup (is_at (address_cmp q)) es

  pub look-append : (es fs : List (Address × X)) → look (es ++ fs) ≡ option_or (look es) (look fs)
  look-append [] fs = refl
  look-append (e ∷ es) fs = by (is_at (address_cmp q) e.0) (look-append es fs)
    where
      by : (b : Bool) → look (es ++ fs) ≡ option_or (look es) (look fs)
          → cond b (Some e.1) (look (es ++ fs)) ≡ option_or (cond b (Some e.1) (look es)) (look fs)
      by true h = refl
      by false h = h

  abbrev pub look_in : Part X → Option (Held Item Entry) → Option X
  look_in part found = option_and_then (λ h. look (part h.leaves h.nodes)) found
