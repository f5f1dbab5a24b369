-- The given groups, as they were, are the groups among the found items of the model before; and no found
-- item has a variable's address.
use Rattle.std.specs.Prelude.{◌≡◌, ◌⊎◌, ◌++◌, Bool, true, false, cond, List, [], ◌∷◌, All, AllPairs, Contains, filter, map, Option, Some, None}
use Rattle.std.specs.Option.{option_map_or}
use Rattle.std.proofs.Common.{inl, inr, sym, subst}
use Rattle.std.proofs.lemmas.List.Elements.{All-append, All-cons, All-contains, All-contains_itself, All-map, All-nil, All-weaker}
use Rattle.address_laws.specs.Apart.{Avoids, Distinct, distinct-across, distinct-append, distinct-first, distinct-second}
use Rattle.address_map.specs.Noted.{noted_items}
use Rattle.aff_core.specs.Address.{Address, address_eq-Decides, root_address}
use Rattle.aff_core.specs.declared.root.Root.TheVariants as root
use Rattle.bridge_face.specs.Law.{inner_of}
use Rattle.push_laws.specs.Edits.{AreGroupsAt, AttachedEdit, IsSearch, old_here, setting_here, sound_before, sound_behind}
use Rattle.push_laws.specs.GivenLaws.{IsGivenAt, before_given, given_found, groups_had, index_here}
use Rattle.found_plan.specs.Stood.{old_leaves}
use Rattle.fresh_bridging.specs.FreshBridging.{FreshBridging}
use Rattle.fresh_bridging.specs.ModelImage.{group_item, items_of, model_image, objective_items, row_item}
use Rattle.fresh_bridging.specs.Touched.{item_at}
use Rattle.item_core.specs.Item.{variables_of}
use Rattle.item_core.specs.declared.item.Item.{Item}
use Rattle.leaf_update.specs.LeavesLaws.{among_contained}
use Rattle.local_laws.specs.FoundLaws.{in_groups}
use Rattle.local_laws.specs.Held.{is_there}
use Rattle.local_laws.specs.LookedLaws.{found_passes}
use Rattle.local_laws.specs.Stays.{StaysAt}
use Rattle.local_laws.specs.StaysLaws.{found_is}
use Rattle.map_laws.specs.EachLaws.{all_first, all_second}
use Rattle.push_laws.specs.AgreeLaws.{own_variables as own_of}
use Rattle.push_laws.specs.HadLaws.{AreGroups, had_is}
use Rattle.push_laws.specs.HandedLaws.{is_found}
use Rattle.push_laws.specs.ListLaws.{kept_item}
use Rattle.push_laws.specs.SortedLaws.{passing_contained}
use Rattle.push_laws.specs.SpliceLaws.{AreHadBy}
use Rattle.push_laws.specs.StandsLaws.{distinct_apart}
use Rattle.push_laws.specs.ToldLaws.{variables_once}
use Rattle.touched_items.specs.DifferenceLaws.{objective_address}
use Rattle.touched_items.specs.Differences.{addresses_in, group_addresses, groups_in, row_addresses, rows_in, differing_addresses}
use Rattle.touched_items.specs.SearchLaws.{in_order_noted}
use Rattle.touched_items.specs.declared.differing.ModelItems.{ModelItems}
use Rattle.tree_laws.specs.UserLaws.{inner_is}
use Rattle.user_model.specs.Model.{ModelValue}
use Rattle.user_model.specs.declared.group.Group.{Group}
use Rattle.user_model.specs.declared.objective.Objective.TheVariants as objective
use Rattle.user_model.specs.declared.objective.Objective.{Objective}
use Rattle.user_model.specs.declared.row.Row.{Row}

-- ---- no item has a variable's address

abbrev IsNoVariable : Address → Type 0
IsNoVariable at = ¬ (at.root ≡ root.Variable)

each_no_variable : {X : Type 0} (f : X → Address) → ((x : X) → IsNoVariable (f x)) → (xs : List X)
    → All IsNoVariable (map f xs)
each_no_variable f each [] = All-nil IsNoVariable
each_no_variable f each (x ∷ xs) =
    All-cons IsNoVariable (f x) (map f xs) (each x) (each_no_variable f each xs)

contents_no_variable : (c : ModelItems) → All IsNoVariable (addresses_in c)
contents_no_variable c =
    All-append IsNoVariable (group_addresses (groups_in c))
    (row_addresses (rows_in c) ++ option_map_or (λ _. objective_address ∷ []) c.objective [])
    (each_no_variable (λ (g : Group). root_address root.Group g.id) (λ g e. cc) (groups_in c))
    (All-append IsNoVariable (row_addresses (rows_in c))
    (option_map_or (λ _. objective_address ∷ []) c.objective [])
    (each_no_variable (λ (r : Row). root_address root.Row r.id) (λ r e. cc) (rows_in c))
    (last c.objective))
  where
    last : {B : Type 0} (o : Option B)
        → All IsNoVariable (option_map_or (λ _. objective_address ∷ []) o [])
    last None = All-nil IsNoVariable
    last (Some x) =
        All-cons IsNoVariable objective_address [] (λ e. cc) (All-nil IsNoVariable)

items_no_variable : (model : ModelValue) → All (λ i. IsNoVariable i.at) (items_of model)
items_no_variable model =
    All-append Other (model_image model).groups (model_image model).others
    (All-map Other group_item model.groups (groups model.groups))
    (All-append Other (map row_item model.rows) (objective_items model.objective)
    (All-map Other row_item model.rows (rows model.rows)) (last model.objective))
  where
    Other : Item → Type 0
    Other i = IsNoVariable i.at

    groups : (gs : List Group) → All (λ g. Other (group_item g)) gs
    groups [] = All-nil (λ g. Other (group_item g))
    groups (g ∷ gs) = All-cons (λ g. Other (group_item g)) g gs (λ e. cc) (groups gs)

    rows : (rs : List Row) → All (λ r. Other (row_item r)) rs
    rows [] = All-nil (λ r. Other (row_item r))
    rows (r ∷ rs) = All-cons (λ r. Other (row_item r)) r rs (λ e. cc) (rows rs)

    last : (o : Objective) → All Other (objective_items o)
    last objective.Feasibility = All-nil Other
    last (objective.Plain sense var) = All-cons Other _ [] (λ e. cc) (All-nil Other)
    last (objective.Affine sense func) = All-cons Other _ [] (λ e. cc) (All-nil Other)

item_no_variable : (model : ModelValue) (at : Address) (item : Item) → item_at model at ≡ Some item
    → IsNoVariable at
item_no_variable model at item is =
    subst IsNoVariable
    ((address_eq-Decides item.at at).0 (found_passes (is_there at) (items_of model) item is))
    (found_is (λ i. IsNoVariable i.at) (is_there at) (items_of model) item (items_no_variable model) is)

-- ---- variables of some of the groups

module _ (p : Item → Bool) where
  fewer_avoid : (v : Address) (items : List Item) → Avoids (inner_of items) v
      → Avoids (inner_of (filter p items)) v
  fewer_avoid v [] h = h
  fewer_avoid v (x ∷ xs) h =
      by (p x)
      (fewer_avoid v xs (all_second (λ k. ¬ (k ≡ v)) (variables_of x.body) (inner_of xs) h))
    where
      by : (b : Bool) → Avoids (inner_of (filter p xs)) v
          → Avoids (inner_of (cond b (x ∷ filter p xs) (filter p xs))) v
      by true later =
          All-append (λ k. ¬ (k ≡ v)) (variables_of x.body) (inner_of (filter p xs))
          (all_first (λ k. ¬ (k ≡ v)) (variables_of x.body) (inner_of xs) h) later
      by false later = later

  pub fewer_once : (items : List Item) → Distinct (inner_of items)
      → Distinct (inner_of (filter p items))
  fewer_once [] d = d
  fewer_once (x ∷ xs) d =
      by (p x) (fewer_once xs (distinct-second (variables_of x.body) (inner_of xs) d))
    where
      by : (b : Bool) → Distinct (inner_of (filter p xs))
          → Distinct (inner_of (cond b (x ∷ filter p xs) (filter p xs)))
      by true later =
          distinct-append (variables_of x.body) (inner_of (filter p xs))
          (distinct-first (variables_of x.body) (inner_of xs) d) later
          (All-weaker (Avoids (inner_of xs)) (Avoids (inner_of (filter p xs)))
          (λ v n. fewer_avoid v xs n) (variables_of x.body)
          (distinct-across (variables_of x.body) (inner_of xs) d))
      by false later = later

module _ (e : AttachedEdit) (changed addresses : List Address) (rows : List Row)
    (objective : Option Objective) (search : IsSearch e changed addresses rows objective) where
  abbrev given : List Address
  given = differing_addresses e.d

  abbrev noted : Address → List Address
  noted = noted_items e.places.noted

  abbrev had_here_groups : AreGroupsAt e.model addresses (groups_in e.d.before)
  had_here_groups = groups_had e changed addresses rows objective search

  no_variables : All IsNoVariable addresses
  no_variables =
      All-weaker (Contains addresses) IsNoVariable
      (λ at c. by at ((in_order_noted given changed noted addresses search.order at).0 c))
      addresses (All-contains_itself addresses)
    where
      by : (at : Address)
          → Contains given at ⊎ ((v : Address) × Contains changed v × Contains (noted v) at)
          → IsNoVariable at
      by at (inl c) =
          All-contains IsNoVariable given at
          (All-append IsNoVariable (addresses_in e.d.before) (addresses_in e.d.after)
          (contents_no_variable e.d.before) (contents_no_variable e.d.after)) c
      by at (inr k) =
          let m = (index_here e k.0 at).0 k.2 in
          item_no_variable e.model at m.0 m.1

  are_groups : (new : FreshBridging (setting_here e) e.after)
      (apart : AllPairs (λ a b. ¬ (b ≡ a)) addresses)
      (stay : (at : Address) → ¬ (Contains addresses at) → StaysAt (old_here e) new at)
      → AreGroups (sound_before e) (sound_behind e) (old_here e) new addresses apart stay e.places
      e.solver e.objective_at e.held.named e.held.leaves (groups_in e.d.before)
  are_groups new apart stay = record {
    among_found =
        All-weaker (λ g. IsGivenAt e.model given (group_item g))
        (λ g. Contains addresses (group_item g).at
        × (item_at e.model (group_item g).at ≡ Some (group_item g)))
        (λ g h. (given_found e changed addresses rows objective search (group_item g).at h.1, h.0))
        (groups_in e.d.before) (before_given e);
    all = λ at item c is group.
        subst (λ l. Contains l item) had_here_groups
        (kept_item (is_found addresses) (map group_item e.model.groups) item
        (passing_contained (is_there at) (map group_item e.model.groups) item
        (in_groups e.model at item is group))
        (among_contained item.at addresses
        (subst (Contains addresses)
        (sym ((address_eq-Decides item.at at).0
        (found_passes (is_there at) (items_of e.model) item is))) c)));
    once =
        distinct_apart (own_of (groups_in e.d.before))
        (subst Distinct (inner_is (groups_in e.d.before))
        (subst (λ l. Distinct (inner_of l)) had_here_groups
        (fewer_once (is_found addresses) (model_image e.model).groups
        (variables_once e.model e.held.valid))));
    roots = no_variables;
  }

  -- what is listed is what the found items had
  pub had_here : (new : FreshBridging (setting_here e) e.after)
      (apart : AllPairs (λ a b. ¬ (b ≡ a)) addresses)
      (stay : (at : Address) → ¬ (Contains addresses at) → StaysAt (old_here e) new at)
      → AreHadBy (sound_before e) (sound_behind e) (old_here e) new addresses apart stay
      (old_leaves e.places e.solver e.objective_at (groups_in e.d.before) addresses)
  had_here new apart stay =
      had_is (sound_before e) (sound_behind e) (old_here e) new addresses apart stay e.places
      e.solver e.objective_at e.held.named e.held.leaves (groups_in e.d.before)
      (are_groups new apart stay)
