-- The addresses of leaves and nodes, as lists of the leaves and of the nodes.
use Rattle.std.specs.Prelude.{◌≡◌, ℕ, List, [], ◌∷◌, ◌++◌, All, Contains, flat_map, map, refl}
use Rattle.std.specs.Map.{keys_of}
use Rattle.std.proofs.Common.{inl, inr, sym, ap, ap₂, subst, ◌∙◌}
use Rattle.std.proofs.lemmas.Grind.{flat_map-append}
use Rattle.std.proofs.lemmas.List.{append-nil, map-append}
use Rattle.std.proofs.lemmas.List.Elements.{All-cons, All-nil, All-contains_itself, All-weaker}
use Rattle.expansion.specs.Bridged.{Bridged, EachBridged, EachBridgedIn, by, each, each_in, natively, none, none_in}
use Rattle.expansion.specs.Read.{leaves, leaves_in, leaves_of_each, nodes, nodes_in, nodes_of_each}
use Rattle.expansion.specs.Rules.{Rules}
use Rattle.aff_core.specs.Address.{Address}
use Rattle.item_core.specs.declared.item.Body.{Body}
use Rattle.item_core.specs.declared.item.Body.TheVariants.{Group, Free, Plain, Affine, PlainVec, AffineVec, PlainObj, AffineObj}
use Rattle.item_core.specs.declared.item.Item.{Item}
use Rattle.solver_store.specs.declared.leaf.LeafVar.TheVariants as leaf
use Rattle.fresh_bridging.specs.Entries.{Entry}
use Rattle.fresh_bridging.specs.Leaves.{leaf_objectives, leaf_rows, leaf_variable, leaf_variables}
use Rattle.address_laws.specs.Apart.{Distinct}
use Rattle.address_laws.specs.KeyLaws.{AreKeys, itself_below}
use Rattle.address_laws.specs.Keys.{Mine, keys, keys_in, keys_of_each, own}

-- ---- the addresses of leaves and nodes

-- each entry's key is the address that it was given for
first_of_pairs : {X : Type 0} (x : X) (vs : List Address) → keys_of (map (λ v. (v, x)) vs) ≡ vs
first_of_pairs x [] = refl
first_of_pairs x (v ∷ vs) = ap (λ l. v ∷ l) (first_of_pairs x vs)

pub variable_keys : (item : Item) → keys_of (leaf_variables item) ≡ own item
variable_keys item = by item.body
  where
    by : (b : Body)
        → keys_of (leaf_variables (record { at = item.at; body = b }))
        ≡ own (record { at = item.at; body = b })
    by (Group set vars) = first_of_pairs (leaf_variable set) vars
    by (Free vars) = first_of_pairs leaf.Free vars
    by _ = refl

abbrev pub no_keys : Item → List Address
no_keys item = []

abbrev pub its_key : Item → List Address
its_key item = item.at ∷ []

abbrev pub row_keys : Item → List Address
row_keys item = keys_of (leaf_rows item)

abbrev pub objective_keys : Item → List Address
objective_keys item = keys_of (leaf_objectives item)

pub variables_are : AreKeys own no_keys
variables_are = record {
  leaf_mine = λ item. All-weaker (Contains (own item)) (Mine item) (λ v c. inr c) (own item)
      (All-contains_itself (own item));
  leaf_once = λ item d. d;
  node_here = λ item. All-nil (λ k. k ≡ item.at);
  node_once = λ item. tt;
}

-- one address at most, which is the item's
pub record HasOwnKeyAlone (item : Item) (ks : List Address) : Type 0 where
  pub here : All (λ k. k ≡ item.at) ks
  pub once : Distinct ks

alone_none : (item : Item) → HasOwnKeyAlone item []
alone_none item = record { here = All-nil (λ k. k ≡ item.at); once = tt }

alone_itself : (item : Item) → HasOwnKeyAlone item (item.at ∷ [])
alone_itself item = record {
  here = All-cons (λ k. k ≡ item.at) item.at [] refl (All-nil (λ k. k ≡ item.at));
  once = (All-nil (λ k. ¬ (k ≡ item.at)), tt);
}

alone_mine : (item : Item) (ks : List Address) → HasOwnKeyAlone item ks → All (Mine item) ks
alone_mine item ks h =
    All-weaker (λ k. k ≡ item.at) (Mine item)
    (λ k e. inl (record { rest = []; is = e ∙ itself_below item.at })) ks h.here

pub rows_alone : (item : Item) → HasOwnKeyAlone item (row_keys item)
rows_alone item = by item.body
  where
    by : (b : Body) → HasOwnKeyAlone item (row_keys (record { at = item.at; body = b }))
    by (Plain var set) = alone_itself item
    by (Affine func set) = alone_itself item
    by (PlainVec vars set) = alone_itself item
    by (AffineVec funcs set) = alone_itself item
    by _ = alone_none item

pub objectives_alone : (item : Item) → HasOwnKeyAlone item (objective_keys item)
objectives_alone item = by item.body
  where
    by : (b : Body) → HasOwnKeyAlone item (objective_keys (record { at = item.at; body = b }))
    by (PlainObj sense var) = alone_itself item
    by (AffineObj sense func) = alone_itself item
    by _ = alone_none item

pub alone_are : (of_leaf : Item → List Address)
    → ((item : Item) → HasOwnKeyAlone item (of_leaf item))
    → AreKeys of_leaf no_keys
alone_are of_leaf h = record {
  leaf_mine = λ item. alone_mine item (of_leaf item) (h item);
  leaf_once = λ item d. (h item).once;
  node_here = λ item. All-nil (λ k. k ≡ item.at);
  node_once = λ item. tt;
}

pub nodes_are : AreKeys no_keys its_key
nodes_are = record {
  leaf_mine = λ item. All-nil (Mine item);
  leaf_once = λ item d. tt;
  node_here = λ item. (alone_itself item).here;
  node_once = λ item. (alone_itself item).once;
}

-- ---- as lists of the leaves and of the nodes

abbrev pub at_of : ℕ × Item → Address
at_of n = n.1.at

module _ {rules : Rules Item Entry} where
  module _ (f : Item → List Address) where
    mutual
      unfolding keys leaves

      pub leaf_keys : {item : Item} {entries : List Entry} (tree : Bridged rules item entries)
          → keys f no_keys tree ≡ flat_map f (leaves tree)
      leaf_keys (natively {item} c) = sym (append-nil (f item))
      leaf_keys (by c groups others) =
          ap₂ ◌++◌ (leaf_keys_of_each groups) (leaf_keys_in others)
          ∙ sym (flat_map-append f (leaves_of_each groups) (leaves_in others))

      pub leaf_keys_of_each : {items : List Item} {entries : List Entry}
          (trees : EachBridged rules items entries)
          → keys_of_each f no_keys trees ≡ flat_map f (leaves_of_each trees)
      leaf_keys_of_each none = refl
      leaf_keys_of_each (each first rest) =
          ap₂ ◌++◌ (leaf_keys first) (leaf_keys_of_each rest)
          ∙ sym (flat_map-append f (leaves first) (leaves_of_each rest))

      pub leaf_keys_in : {inner : List Entry} {items : List Item}
          (trees : EachBridgedIn rules inner items)
          → keys_in f no_keys trees ≡ flat_map f (leaves_in trees)
      leaf_keys_in none_in = refl
      leaf_keys_in (each_in first rest) =
          ap₂ ◌++◌ (leaf_keys first) (leaf_keys_in rest)
          ∙ sym (flat_map-append f (leaves first) (leaves_in rest))

  mutual
    unfolding keys nodes

    pub node_keys : {item : Item} {entries : List Entry} (tree : Bridged rules item entries)
        → keys no_keys its_key tree ≡ map at_of (nodes tree)
    node_keys (natively {item} c) = refl
    node_keys (by {item} c groups others) =
        ap (λ l. item.at ∷ l) (ap₂ ◌++◌ (node_keys_of_each groups) (node_keys_in others)
        ∙ sym (map-append at_of (nodes_of_each groups) (nodes_in others)))

    pub node_keys_of_each : {items : List Item} {entries : List Entry}
        (trees : EachBridged rules items entries)
        → keys_of_each no_keys its_key trees ≡ map at_of (nodes_of_each trees)
    node_keys_of_each none = refl
    node_keys_of_each (each first rest) =
        ap₂ ◌++◌ (node_keys first) (node_keys_of_each rest)
        ∙ sym (map-append at_of (nodes first) (nodes_of_each rest))

    pub node_keys_in : {inner : List Entry} {items : List Item}
        (trees : EachBridgedIn rules inner items)
        → keys_in no_keys its_key trees ≡ map at_of (nodes_in trees)
    node_keys_in none_in = refl
    node_keys_in (each_in first rest) =
        ap₂ ◌++◌ (node_keys first) (node_keys_in rest)
        ∙ sym (map-append at_of (nodes first) (nodes_in rest))

pub keys_of-flat_map : {X : Type 0} (f : Item → List (Address × X)) (items : List Item)
    → keys_of (flat_map f items) ≡ flat_map (λ i. keys_of (f i)) items
keys_of-flat_map f [] = refl
keys_of-flat_map f (i ∷ items) =
    map-append (λ e. e.0) (f i) (flat_map f items)
    ∙ ap (λ l. keys_of (f i) ++ l) (keys_of-flat_map f items)

pub same_flat_map : (f g : Item → List Address) (items : List Item) → ((i : Item) → f i ≡ g i)
    → flat_map f items ≡ flat_map g items
same_flat_map f g [] h = refl
same_flat_map f g (i ∷ items) h = ap₂ ◌++◌ (h i) (same_flat_map f g items h)

pub keys_of_nodes : (ns : List (ℕ × Item))
    → keys_of (map (λ n. (n.1.at, n)) ns) ≡ map (λ n. n.1.at) ns
keys_of_nodes [] = refl
keys_of_nodes (n ∷ ns) = ap (λ l. n.1.at ∷ l) (keys_of_nodes ns)

pub leaf_variables_are : AreKeys (λ i. keys_of (leaf_variables i)) no_keys
leaf_variables_are = record {
  leaf_mine = λ i. subst (All (Mine i)) (sym (variable_keys i)) (variables_are.leaf_mine i);
  leaf_once = λ i d. subst Distinct (sym (variable_keys i)) d;
  node_here = λ i. All-nil (λ k. k ≡ i.at);
  node_once = λ i. tt;
}
