-- What a user's item holds stands at or below its address, but for the variables that a native group
-- has of its own.
use Rattle.std.specs.Prelude.{Bool, true, false, cond, ◌≡◌, ◌⊎◌, ◌++◌, ◌+◌, ℕ, zero, suc, List, [], ◌∷◌, All, Contains, find, map, Option, Some, None, refl}
use Rattle.std.proofs.Common.{arith, inl, inr, sym, ap, ap₂, subst, ◌∙◌}
use Rattle.std.specs.BTreeMap.{is_at}
use Rattle.std.specs.Map.{keys_of}
use Rattle.std.specs.Option.{option_map_or, option_or}
use Rattle.std.proofs.lemmas.List.Elements.{All-append, All-cons, All-contains, All-map, All-nil, All-weaker}
use Rattle.std.proofs.lemmas.List.Folds.{find-append}
use Rattle.bridge_graph.specs.Hypergraph.{IsCostly}
use Rattle.bridge_graph.specs.declared.Choice.{Choice}
use Rattle.expansion.specs.Bridged.{Bridged, by, natively}
use Rattle.expansion.specs.Grown.{Held}
use Rattle.expansion.specs.Read.{leaves, nodes}
use Rattle.aff_core.specs.Address.{Address, address_cmp, address_eq-Decides}
use Rattle.aff_core.specs.KeyOrder.{address_order, same_key}
use Rattle.item_core.specs.declared.item.Body.TheVariants.{PlainObj, AffineObj}
use Rattle.item_core.specs.declared.item.Item.{Item}
use Rattle.map_laws.specs.EachLaws.{all_first, all_second}
use Rattle.user_model.specs.Model.{ModelValue}
use Rattle.user_model.specs.declared.group.Group.{Group as UserGroup}
use Rattle.user_model.specs.declared.objective.Objective.{Objective}
use Rattle.user_model.specs.declared.objective.Objective.TheVariants as objective
use Rattle.user_model.specs.declared.row.Row.{Row}
use Rattle.fresh_bridging.specs.CanLaws.{AreLawful}
use Rattle.fresh_bridging.specs.Entries.{Entry, put_in}
use Rattle.fresh_bridging.specs.FreshBridging.{FreshBridging}
use Rattle.fresh_bridging.specs.ModelImage.{group_item, model_image, objective_item, objective_items, row_item}
use Rattle.fresh_bridging.specs.OmitLaws.{IsBelow, IsBelowAt}
use Rattle.fresh_bridging.specs.TheRules.{AreChoices, Setting, graph_of, rules_by}
use Rattle.fresh_bridging.specs.Touched.{choice_of_item}
use Rattle.address_laws.specs.Apart.{avoids}
use Rattle.address_laws.specs.DistinctLaws.{model_groups_here, model_others_here}
use Rattle.address_laws.specs.KeyLaws.{IsHere, child_groups_of, groups_here, groups_under, itself_below, others_here, others_of, others_under, within_each, within_in}
use Rattle.address_laws.specs.Keys.{Mine, keys, keys_in, keys_of_each}
use Rattle.address_laws.specs.MadeLaws.{absent}
use Rattle.local_laws.specs.Held.{held_at_in, held_of, is_there}
use Rattle.local_laws.specs.HeldLaws.{held_each_at, held_in_at, keeps_own_each, keeps_own_in, none_at_each}
use Rattle.local_laws.specs.LookedLaws.{contains_or_not, found_passes, looked, owner_looks}
use Rattle.local_laws.specs.Owner.{IsOwner}
use Rattle.local_laws.specs.Sound.{IsValidUnder}
use Rattle.local_laws.specs.StaysLaws.{found_is, none_held}
use Rattle.local_laws.specs.Views.{look, look_in}
use Rattle.address_laws.specs.KeyLaws.{AreKeys}
use Rattle.local_laws.specs.Views.{IsView, Part}
use Rattle.item_leaves.specs.ItemLeaves.{item_of}

-- ---- keys that are at or below a leaf's address are so below each item

module _ (setting : Setting) (costly : IsCostly (graph_of setting)) (choice : ℕ → Choice)
    (chosen : AreChoices setting choice) (lawful : AreLawful setting)
    (of_leaf of_node : Item → List Address) (are : AreKeys of_leaf of_node)
    (low : (item : Item) → All (IsBelow item.at) (of_leaf item)) where
  keys_below : {item : Item} {entries : List Entry} (tree : Bridged (rules_by choice) item entries)
      → IsHere setting costly choice chosen lawful item
      → All (IsBelow item.at) (keys of_leaf of_node tree)
  unfolding keys
  keys_below (natively {item} c) here = low item
  keys_below (by {item} {edge} {inner} c groups others) here =
      All-append (IsBelow item.at) (of_node item)
      (keys_of_each of_leaf of_node groups ++ keys_in of_leaf of_node others)
      (All-weaker (λ k. k ≡ item.at) (IsBelow item.at)
      (λ k e. record { rest = []; is = e ∙ itself_below item.at }) (of_node item)
      (are.node_here item))
      (All-append (IsBelow item.at) (keys_of_each of_leaf of_node groups)
      (keys_in of_leaf of_node others)
      (within_each setting costly choice chosen lawful of_leaf of_node are (IsBelow item.at)
      groups (groups_here setting costly choice chosen lawful item here.can edge c)
      (All-weaker (λ g. (v : Address) → Mine g v → (j : ℕ) × IsBelowAt item.at j v)
      (λ g. (v : Address) → Mine g v → IsBelow item.at v)
      (λ g k v m. under (k v m))
      (child_groups_of setting costly choice chosen lawful item here.can edge c)
      (groups_under setting costly choice chosen lawful item here.can edge c)))
      (within_in setting costly choice chosen lawful of_leaf of_node are (IsBelow item.at)
      others (others_here setting costly choice chosen lawful item here.can edge c inner groups)
      (All-weaker (λ x. (v : Address) → Mine (put_in inner x) v → (j : ℕ) × IsBelowAt item.at j v)
      (λ x. (v : Address) → Mine (put_in inner x) v → IsBelow item.at v)
      (λ x k v m. under (k v m))
      (others_of setting costly choice chosen lawful item here.can edge c)
      (others_under setting costly choice chosen lawful item here.can edge c inner))))
    where
      under : {v : Address} → (j : ℕ) × IsBelowAt item.at j v → IsBelow item.at v
      under b = record { rest = b.0 ∷ b.1.rest; is = b.1.is }

-- the user's items have addresses with no position
root_items : (model : ModelValue)
    → All (λ i. i.at.positions ≡ []) ((model_image model).groups ++ (model_image model).others)
root_items model =
    All-append IsRoot (model_image model).groups (model_image model).others
    (All-map IsRoot group_item model.groups (each_group model.groups))
    (All-append IsRoot (map row_item model.rows) (objective_items model.objective)
    (All-map IsRoot row_item model.rows (each_row model.rows)) (last model.objective))
  where
    IsRoot : Item → Type 0
    IsRoot i = i.at.positions ≡ []

    each_group : (gs : List UserGroup) → All (λ g. IsRoot (group_item g)) gs
    each_group [] = All-nil (λ g. IsRoot (group_item g))
    each_group (g ∷ gs) = All-cons (λ g. IsRoot (group_item g)) g gs refl (each_group gs)

    each_row : (rs : List Row) → All (λ r. IsRoot (row_item r)) rs
    each_row [] = All-nil (λ r. IsRoot (row_item r))
    each_row (r ∷ rs) = All-cons (λ r. IsRoot (row_item r)) r rs refl (each_row rs)

    last : (o : Objective) → All IsRoot (objective_items o)
    last objective.Feasibility = All-nil IsRoot
    last (objective.Plain sense var) =
        All-cons IsRoot (objective_item (PlainObj sense var)) [] refl (All-nil IsRoot)
    last (objective.Affine sense func) =
        All-cons IsRoot (objective_item (AffineObj sense func)) [] refl (All-nil IsRoot)

-- a key of an entry is found
pub missing : {X : Type 0} (v : Address) (es : List (Address × X)) → look v es ≡ None
    → ¬ (Contains (keys_of es) v)
missing v [] e c = absurd (omega (arith, c.1))
missing v (d ∷ es) e (zero, inside, is) =
    some_none d.1 (sym (ap (λ b. cond b (Some d.1) (look v es))
    (subst (λ k. is_at (address_cmp k) d.0 ≡ true) is (same_key address_order d.0))) ∙ e)
  where
    some_none : {Y : Type 0} (y : Y) → Some y ≡ None → ⊥
    some_none y e = cc
missing v (d ∷ es) e (suc place, inside, is) =
    by (is_at (address_cmp v) d.0) e (λ g. missing v es g (place, omega (arith, inside), is))
  where
    some_none : {Y : Type 0} (y : Y) → Some y ≡ None → ⊥
    some_none y e = cc

    by : (b : Bool) → cond b (Some d.1) (look v es) ≡ None → (look v es ≡ None → ⊥) → ⊥
    by true e later = some_none d.1 e
    by false e later = later e

-- ---- of a bridging

module _ {setting : Setting} {model : ModelValue} (sound : IsValidUnder setting model)
    (bridging : FreshBridging setting model)
    {X : Type 0} (part : Part X) (view : IsView part)
    (low : (item : Item) → All (IsBelow item.at) (view.of_leaf item)) where
  abbrev Here : Item → Type 0
  Here item = IsHere setting sound.costly bridging.choice bridging.chosen sound.lawful item

  abbrev in_held : Option (Held Item Entry) → List (Address × X)
  in_held o = option_map_or (λ h. part h.leaves h.nodes) o []

  abbrev at_item : Address → List (Address × X)
  at_item at = in_held (held_of bridging at)

  of_tree : (at : Address) (item : Item) (entries : List Entry)
      (tree : Bridged (rules_by bridging.choice) item entries) → Here item → item.at ≡ at
      → item.at.positions ≡ [] → All (λ k. item_of k ≡ at) (keys_of (part (leaves tree) (nodes tree)))
  of_tree at item entries tree here e root =
      subst (All (λ k. item_of k ≡ at))
      (sym (view.tree (rules_by bridging.choice) item entries tree))
      (All-weaker (IsBelow item.at) (λ k. item_of k ≡ at)
      (λ k b. ap item_of b.is ∙ sym (whole item.at root) ∙ e) (keys view.of_leaf view.of_node tree)
      (keys_below setting sound.costly bridging.choice bridging.chosen sound.lawful view.of_leaf
      view.of_node view.are low tree here))
    where
      whole : (a : Address) → a.positions ≡ [] → a ≡ item_of a
      whole a p = λ i. record a { positions = p i }

  roots_at : (at : Address) → All (λ k. item_of k ≡ at) (keys_of (at_item at))
  roots_at at =
      by (find (is_there at) (model_image model).groups)
      (find (is_there at) (model_image model).others) refl refl
    where
      moved : (o p : Option (Held Item Entry)) → o ≡ p
          → All (λ k. item_of k ≡ at) (keys_of (in_held p))
          → All (λ k. item_of k ≡ at) (keys_of (in_held o))
      moved o p e h =
          subst (λ o. All (λ k. item_of k ≡ at)
          (keys_of (in_held o))) (sym e) h

      here : (items : List Item) (x : Item) → find (is_there at) items ≡ Some x → x.at ≡ at
      here items x e = (address_eq-Decides x.at at).0 (found_passes (is_there at) items x e)

      by : (f g : Option Item) → find (is_there at) (model_image model).groups ≡ f
          → find (is_there at) (model_image model).others ≡ g
          → All (λ k. item_of k ≡ at) (keys_of (at_item at))
      by (Some x) g e k =
          let is = held_each_at (choice_of_item bridging.choice) at bridging.made.groups
          (keeps_own_each at bridging.made.groups) x e in
          moved _ _ (ap (λ o. option_or o (held_at_in at bridging.made.others)) is.is)
          (of_tree at x is.entries is.tree
          (found_is Here (is_there at) (model_image model).groups x
          (model_groups_here setting sound.costly sound.lawful model sound.valid bridging) e)
          (here (model_image model).groups x e)
          (found_is (λ i. i.at.positions ≡ []) (is_there at) (model_image model).groups x
          (all_first (λ i. i.at.positions ≡ []) (model_image model).groups (model_image model).others
          (root_items model)) e))
      by None (Some c) e k =
          let is = held_in_at (choice_of_item bridging.choice) at bridging.made.others
          (keeps_own_in at bridging.made.others) c k in
          moved _ _ (ap₂ option_or (none_at_each at bridging.made.groups e) is.is)
          (of_tree at (put_in bridging.made.entries c) is.entries is.tree
          (found_is (λ c. Here (put_in bridging.made.entries c)) (is_there at)
          (model_image model).others c
          (model_others_here setting sound.costly sound.lawful model sound.valid bridging) k)
          (here (model_image model).others c k)
          (found_is (λ i. i.at.positions ≡ []) (is_there at) (model_image model).others c
          (all_second (λ i. i.at.positions ≡ []) (model_image model).groups
          (model_image model).others (root_items model)) k))
      by None None e k =
          moved _ None (none_held bridging at
          (find-append (is_there at) (model_image model).groups (model_image model).others
          ∙ ap₂ option_or e k))
          (All-nil (λ k. item_of k ≡ at))

  abbrev here_now : Address → Option X
  here_now v =
      looked setting sound.costly sound.lawful model sound.valid bridging part view v

  -- where something stands, its root is the item that owns its address
  pub root_is_owner : (v b : Address) → IsOwner model v b → ¬ (here_now v ≡ None) → item_of v ≡ b
  root_is_owner v b o some =
      by (contains_or_not (keys_of (at_item b)) v)
    where
      held_is : here_now v ≡ look v (at_item b)
      held_is =
          owner_looks setting sound.costly sound.lawful model sound.valid bridging part
          view v b o
          ∙ one (held_of bridging b)
        where
          one : (h : Option (Held Item Entry)) → look_in v part h ≡ look v (in_held h)
          one None = refl
          one (Some h) = refl

      by : Contains (keys_of (at_item b)) v ⊎ (¬ (Contains (keys_of (at_item b)) v)) → item_of v ≡ b
      by (inl c) = All-contains (λ k. item_of k ≡ b) (keys_of (at_item b)) v (roots_at b) c
      by (inr n) =
          absurd (some (held_is ∙ absent (at_item b) v (avoids (keys_of (at_item b)) v n)))
