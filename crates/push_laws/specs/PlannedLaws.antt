-- What is found of an edit is what it touches, and what is planned of it is what the new bridging holds
-- of it.
use Rattle.std.specs.Prelude.{◌≡◌, ◌++◌, ℕ, false, find as first_passing, List, [], ◌∷◌, All, AllPairs, Contains, Option, Some, None, filter, flat_map, is_some, length, map, refl, ◌≢◌, ◌⊎◌, ◌↔◌, Bool, true}
use Rattle.std.specs.List.Sorted.{IsStrictlySortedBy}
use Rattle.std.specs.Option.{option_map_or}
use Rattle.std.specs.declared.cmp.Ordering.TheVariants.{Less}
use Rattle.std.proofs.Common.{sym, ap, ap₂, subst, ◌∙◌, true≢false, inl, inr}
use Rattle.std.proofs.lemmas.Grind.{flat_map-append}
use Rattle.std.proofs.lemmas.List.{map-append}
use Rattle.std.proofs.lemmas.List.Elements.{All-contains_itself, All-filter, All-from_recursion, All-weaker, filter-append, All-contains}
use Rattle.std.proofs.lemmas.List.Kept.{AllPairs-cons}
use Rattle.std.proofs.lemmas.Map.Keys.{sorted_head, sorted_tail, IsDistinct-from_sorted}
use Rattle.std.proofs.lemmas.Option.{none-some}
use Rattle.address_map.specs.Noted.{noted_items}
use Rattle.aff_core.specs.Address.{Address, address_cmp, address_total}
use Rattle.bridge_face.specs.declared.kept_item.KeptItem.{KeptItem}
use Rattle.bridge_graph.specs.declared.Choice.{Choice}
use Rattle.bridge_plan.specs.AddsHeld.{kept_of}
use Rattle.bridge_plan.specs.Worked.{IsItemWithinLevels, worked, worked_each, worked_in}
use Rattle.push_laws.specs.StayingLaws.{alike_by, group_stays_at, own_stands}
use Rattle.push_laws.specs.Edits.{AreChanging, AttachedEdit, IsPlanned, IsSearch, IsStandingFor, choice_here, groups_held, groups_now, old_here, others_held, setting_here, sound_before, sound_behind}
use Rattle.push_laws.specs.GivenLaws.{given_here, groups_handed, index_here, unfound}
use Rattle.push_laws.specs.RefusedLaws.{all_changed, all_compared}
use Rattle.expansion.specs.Bridged.{EachBridged}
use Rattle.expansion.specs.Grown.{Held}
use Rattle.fresh_bridging.specs.Entries.{Entry, expression_in, put_in}
use Rattle.fresh_bridging.specs.ExistenceLaws.{trees_of_bridged}
use Rattle.fresh_bridging.specs.FreshBridging.{FreshBridging, HasTree, expression_of}
use Rattle.fresh_bridging.specs.ModelImage.{items_of, model_image}
use Rattle.fresh_bridging.specs.TheRules.{graph_of, rules_by}
use Rattle.fresh_bridging.specs.Touched.{IsTouched, item_at, named}
use Rattle.item_core.specs.Item.{is_group}
use Rattle.item_core.specs.declared.item.Item.{Item}
use Rattle.leaf_model.specs.LeafModel.{IsCountOf}
use Rattle.local_laws.specs.AgreeingLaws.{put_in_agreeing}
use Rattle.local_laws.specs.FoundLaws.{expression_stays}
use Rattle.local_laws.specs.Held.{HasOwn, held_of, is_there}
use Rattle.local_laws.specs.LookedLaws.{contains_or_not}
use Rattle.local_laws.specs.MentionLaws.{IsBesideGroups}
use Rattle.local_laws.specs.Stays.{AgreeOn, StaysAt}
use Rattle.local_laws.specs.StaysLaws.{none_held}
use Rattle.local_laws.specs.UntouchedLaws.{found_exactly}
use Rattle.map_laws.specs.EachLaws.{all_both}
use Rattle.map_laws.specs.PairLaws.{AllPairs-nil}
use Rattle.model_bridging.specs.Found.{found_others}
use Rattle.model_bridging.specs.Levels.{groups_within, others_within}
use Rattle.push_laws.specs.AloneLaws.{groups_found, one_for_all, others_found}
use Rattle.push_laws.specs.HandedLaws.{is_found, others_handed}
use Rattle.push_laws.specs.HeldAllLaws.{leaves_held, nodes_held}
use Rattle.push_laws.specs.ListLaws.{flat_kept}
use Rattle.push_laws.specs.OrderLaws.{not_below}
use Rattle.push_laws.specs.PlanLaws.{IsGroupOf, IsOtherOf, addresses_of, groups_leaves, groups_nodes, others_leaves, others_nodes}
use Rattle.push_laws.specs.SortedLaws.{standing_addresses}
use Rattle.touched_items.specs.Differences.{own_variables}
use Rattle.touched_items.specs.SearchLaws.{in_order_noted}
use Rattle.user_model.specs.declared.objective.Objective.{Objective}
use Rattle.user_model.specs.declared.row.Row.{Row}
use Rattle.item_core.specs.Kind.{kind_count}

-- ---- sorted addresses are apart

pub sorted_apart : (ats : List Address) → IsStrictlySortedBy address_cmp ats
    → AllPairs (λ a b. ¬ (b ≡ a)) ats
sorted_apart [] h = AllPairs-nil (λ a b. ¬ (b ≡ a))
sorted_apart (a ∷ ats) h =
    AllPairs-cons (λ a b. ¬ (b ≡ a)) a ats
    (All-weaker (λ b. address_cmp a b ≡ Less) (λ b. ¬ (b ≡ a)) (λ b less same. not_below address_total a (subst (λ c. address_cmp a c ≡ Less) same less)) ats
    (All-from_recursion (λ b. address_cmp a b ≡ Less) ats (sorted_head address_cmp a ats h)))
    (sorted_apart ats (sorted_tail address_cmp a ats h))

-- ---- an edit's search

module _ (e : AttachedEdit) (changed addresses : List Address) (rows : List Row)
    (objective : Option Objective) (search : IsSearch e changed addresses rows objective) where
  pub found_groups : filter (is_found addresses) (model_image e.after).groups ≡ groups_now e
  found_groups = groups_handed e changed addresses rows objective search

  pub found_others_are :
      filter (is_found addresses) (model_image e.after).others ≡ found_others rows objective
  found_others_are =
      others_handed e.after e.valid addresses search.order.rising
      ∙ ap₂ found_others (sym search.rows_are) (sym search.objective_is)

  pub found_items :
      filter (is_found addresses) (items_of e.after) ≡ groups_now e ++ found_others rows objective
  found_items =
      filter-append (is_found addresses) (model_image e.after).groups (model_image e.after).others
      ∙ ap₂ ◌++◌ found_groups found_others_are

  pub apart : AllPairs (λ a b. ¬ (b ≡ a)) addresses
  apart = sorted_apart addresses search.order.rising

  -- ---- by the bridging after

  module _ (new : FreshBridging (setting_here e) e.after) where
    pub new_choice : new.choice ≡ choice_here e
    new_choice =
        one_for_all (setting_here e) e.sound.costly new.choice (choice_here e) new.chosen
        e.sound.chosen

    pub group_trees : All (HasTree (graph_of (setting_here e))) (model_image e.after).groups
    group_trees =
        (trees_of_bridged (setting_here e) e.sound.costly new.choice new.chosen e.sound.lawful
        (model_image e.after) new.made).0

    of_groups : (P : Item → Type 0) → All P (model_image e.after).groups → All P (groups_now e)
    of_groups P all =
        subst (All P) found_groups
        (All-filter (is_found addresses) P (model_image e.after).groups all)

    pub all_groups_within : All (IsItemWithinLevels new.choice kind_count) (model_image e.after).groups
    all_groups_within =
        groups_within (setting_here e) e.sound.costly new.choice new.chosen e.sound.lawful e.after
        e.valid group_trees

    pub groups_planned : All (IsGroupOf new) (groups_now e)
    groups_planned =
        of_groups (IsGroupOf new)
        (All-weaker
        (λ g. (first_passing (is_there g.at) (model_image e.after).groups ≡ Some g)
        × IsItemWithinLevels new.choice kind_count g) (IsGroupOf new)
        (λ g h. record { stands = h.0; within = h.1 }) (model_image e.after).groups
        (all_both (λ g. first_passing (is_there g.at) (model_image e.after).groups ≡ Some g)
        (IsItemWithinLevels new.choice kind_count) (model_image e.after).groups (groups_found e.after e.valid)
        all_groups_within))

    -- what is planned of the groups stands for their variables
    pub own_is : (v : Address) → Contains (own_variables e.d) v
        → expression_in (groups_held e).entries v ≡ expression_of new v
    own_is v c =
        ap (λ gs. expression_in
        (worked_each (choice_here e) (worked (choice_here e) kind_count) gs).entries v) (sym found_groups)
        ∙ own_stands e new.made.entries
        (subst (λ c. EachBridged (rules_by c) (model_image e.after).groups new.made.entries) new_choice
        new.made.groups) (is_found addresses)
        (λ i out. unfound e changed addresses rows objective search i out)
        (subst (λ c. All (IsItemWithinLevels c kind_count)
        (filter (is_found addresses) (model_image e.after).groups)) new_choice
        (All-filter (is_found addresses) (IsItemWithinLevels new.choice kind_count)
        (model_image e.after).groups all_groups_within)) v c

module _ (e : AttachedEdit) (new : FreshBridging (setting_here e) e.after)
    (standing : List Entry) (changed addresses : List Address) (rows : List Row)
    (objective : Option Objective) (search : IsSearch e changed addresses rows objective)
    (changing : AreChanging e standing changed) where
  pub standing_is : (v : Address) → Contains (own_variables e.d) v
      → expression_in standing v ≡ expression_of new v
  standing_is v c =
      ap (λ f. f v) changing.stands ∙ own_is e changed addresses rows objective search new v c

  abbrev choice_is : new.choice ≡ choice_here e
  choice_is = new_choice e changed addresses rows objective search new

  -- the search is by the variables for which something else stands
  changed_are : All (λ v. expression_of (old_here e) v ≢ expression_of new v) changed
  changed_are =
      subst (All (λ v. expression_of (old_here e) v ≢ expression_of new v)) (sym changing.changes)
      (all_changed e standing (expression_of new) standing_is)

  beside_same : (v : Address) → IsBesideGroups e.model e.after (given_here e) v
      → expression_of (old_here e) v ≡ expression_of new v
  beside_same v beside =
      expression_stays (sound_before e) (sound_behind e) (old_here e) new v (record {
        before = λ at item is group own.
            was at item is group own (contains_or_not (given_here e) at);
        behind = λ at item is group own.
            now at item is group own (contains_or_not (given_here e) at);
      })
    where
      was : (at : Address) (item : Item) → item_at e.model at ≡ Some item
          → is_group item.body ≡ true → HasOwn v item
          → Contains (given_here e) at ⊎ (¬ (Contains (given_here e) at))
          → StaysAt (old_here e) new at
      was at item is group own (inl c) = absurd (beside.before at item c is group own)
      was at item is group own (inr n) =
          group_stays_at e new choice_is at item (e.separates.same at n) is group n

      now : (at : Address) (item : Item) → item_at e.after at ≡ Some item
          → is_group item.body ≡ true → HasOwn v item
          → Contains (given_here e) at ⊎ (¬ (Contains (given_here e) at))
          → StaysAt (old_here e) new at
      now at item is group own (inl c) = absurd (beside.behind at item c is group own)
      now at item is group own (inr n) =
          group_stays_at e new choice_is at item (e.separates.same at n)
          (e.separates.same at n ∙ is) group n

  same_unchanged : (v : Address) → ¬ (Contains changed v)
      → expression_of (old_here e) v ≡ expression_of new v
  same_unchanged v n =
      by (all_compared e standing (expression_of new) standing_is v
      (subst (λ l. ¬ (Contains l v)) changing.changes n))
    where
      by : (expression_of (old_here e) v ≡ expression_of new v)
          ⊎ IsBesideGroups e.model e.after (given_here e) v
          → expression_of (old_here e) v ≡ expression_of new v
      by (inl is) = is
      by (inr beside) = beside_same v beside

  found_where : (at : Address)
      → Contains addresses at
      ↔ (Contains (given_here e) at
      ⊎ ((v : Address) × Contains changed v × Contains (noted_items e.places.noted v) at))
  found_where =
      in_order_noted (given_here e) changed (noted_items e.places.noted) addresses search.order

  -- what is found is exactly what is touched
  found_touched : (at : Address) → Contains addresses at → IsTouched (old_here e) new at
  found_touched at c = by ((found_where at).0 c)
    where
      by : Contains (given_here e) at
          ⊎ ((v : Address) × Contains changed v × Contains (noted_items e.places.noted v) at)
          → IsTouched (old_here e) new at
      by (inl d) = All-contains (IsTouched (old_here e) new) (given_here e) at (e.touched new) d
      by (inr (v, k, n)) =
          let m = (index_here e v at).0 n in
          named v (inl (m.0, m.1, m.3))
          (All-contains (λ v. expression_of (old_here e) v ≢ expression_of new v) changed v
          changed_are k)

  pub others_stay : (at : Address) → ¬ (Contains addresses at) → StaysAt (old_here e) new at
  others_stay at out = by (item_at e.model at) refl
    where
      apart_here : ¬ (Contains (given_here e) at)
      apart_here d = out ((found_where at).1 (inl d))

      other : (item : Item) → item_at e.model at ≡ Some item → is_group item.body ≡ false
          → StaysAt (old_here e) new at
      other item is none = record {
        same = e.separates.same at apart_here;
        alike = alike_by e new choice_is at apart_here;
        agree = λ x found no_group v names. same_unchanged v (λ k. out ((found_where at).1
            (inr (v, k, (index_here e v at).1 (x, found, no_group, names)))));
      }

      by : (o : Option Item) → item_at e.model at ≡ o → StaysAt (old_here e) new at
      by None none = record {
        same = e.separates.same at apart_here;
        alike = alike_by e new choice_is at apart_here;
        agree = λ item found no_group v names. absurd (none-some item (sym none ∙ found));
      }
      by (Some item) is = sort (is_group item.body) refl
        where
          sort : (b : Bool) → is_group item.body ≡ b → StaysAt (old_here e) new at
          sort true group =
              group_stays_at e new choice_is at item (e.separates.same at apart_here) is group
              apart_here
          sort false none = other item is none

  pub all_touched : All (IsTouched (old_here e) new) addresses
  all_touched =
      All-weaker (Contains addresses) (IsTouched (old_here e) new) found_touched
      addresses (All-contains_itself addresses)

  -- so there are as many as are found
  pub count_here : IsCountOf (IsTouched (old_here e) new) (length addresses)
  count_here =
      found_exactly (sound_before e) (sound_behind e) (old_here e) new addresses
      (IsDistinct-from_sorted address_cmp addresses search.order.rising) all_touched others_stay

  -- ---- rows and the objective

  module _ (further : List Entry) (stands : IsStandingFor e standing rows objective further)
      (agree : All (λ i. AgreeOn further new.made.entries i.body) (found_others rows objective))
    where
      abbrev others : List Item
      others = (model_image e.after).others

      pub found_are : All (IsOtherOf new further) (found_others rows objective)
      found_are =
          All-weaker
          (λ c. (first_passing (is_there c.at) (model_image e.after).groups ≡ None)
          × ((first_passing (is_there c.at) others ≡ Some c)
          × (AgreeOn further new.made.entries c.body
          × IsItemWithinLevels new.choice kind_count (put_in new.made.entries c))))
          (IsOtherOf new further)
          (λ c h. record {
            no_group = h.0;
            stands = h.1.0;
            agrees = h.1.1.0;
            within = subst (IsItemWithinLevels new.choice kind_count)
                (sym (put_in_agreeing further new.made.entries c h.1.1.0)) h.1.1.1;
          }) (found_others rows objective)
          (all_both (λ c. first_passing (is_there c.at) (model_image e.after).groups ≡ None)
          (λ c. (first_passing (is_there c.at) others ≡ Some c)
          × (AgreeOn further new.made.entries c.body
          × IsItemWithinLevels new.choice kind_count (put_in new.made.entries c)))
          (found_others rows objective)
          (All-weaker
          (λ c. (first_passing (is_there c.at) (model_image e.after).groups ≡ None)
          × (first_passing (is_there c.at) others ≡ Some c))
          (λ c. first_passing (is_there c.at) (model_image e.after).groups ≡ None) (λ c h. h.0)
          (found_others rows objective) stand)
          (all_both (λ c. first_passing (is_there c.at) others ≡ Some c)
          (λ c. AgreeOn further new.made.entries c.body
          × IsItemWithinLevels new.choice kind_count (put_in new.made.entries c))
          (found_others rows objective)
          (All-weaker
          (λ c. (first_passing (is_there c.at) (model_image e.after).groups ≡ None)
          × (first_passing (is_there c.at) others ≡ Some c))
          (λ c. first_passing (is_there c.at) others ≡ Some c) (λ c h. h.1)
          (found_others rows objective) stand)
          (all_both (λ c. AgreeOn further new.made.entries c.body)
          (λ c. IsItemWithinLevels new.choice kind_count (put_in new.made.entries c))
          (found_others rows objective)
          agree
          (of_found (λ c. IsItemWithinLevels new.choice kind_count (put_in new.made.entries c))
          (others_within (setting_here e) e.sound.costly new.choice new.chosen e.sound.lawful
          e.after e.valid new.made.entries new.made.groups
          (trees_of_bridged (setting_here e) e.sound.costly new.choice new.chosen e.sound.lawful
          (model_image e.after) new.made).1)))))
        where
          of_found : (P : Item → Type 0) → All P others → All P (found_others rows objective)
          of_found P all =
              subst (All P) (found_others_are e changed addresses rows objective search)
              (All-filter (is_found addresses) P others all)

          stand : All
              (λ c. (first_passing (is_there c.at) (model_image e.after).groups ≡ None)
              × (first_passing (is_there c.at) others ≡ Some c)) (found_others rows objective)
          stand =
              of_found (λ c. (first_passing (is_there c.at) (model_image e.after).groups ≡ None)
              × (first_passing (is_there c.at) others ≡ Some c)) (others_found e.after e.valid)

      -- so they may be planned
      pub within_here :
          All (λ item. IsItemWithinLevels (choice_here e) kind_count (put_in further item))
          (found_others rows objective)
      within_here =
          subst (λ (c : ℕ → Choice). All (λ item. IsItemWithinLevels c kind_count (put_in further item))
          (found_others rows objective)) (new_choice e changed addresses rows objective search new)
          (All-weaker (IsOtherOf new further)
          (λ item. IsItemWithinLevels new.choice kind_count (put_in further item)) (λ c h. h.within) (found_others rows objective) found_are)

      -- ---- what is planned

      pub held_where_found : {X : Type 0} (f : Address → List X)
          → ((a : Address) → held_of new a ≡ None → f a ≡ [])
          → flat_map f addresses
          ≡ flat_map f (addresses_of (groups_now e))
          ++ flat_map f (addresses_of (found_others rows objective))
      held_where_found f h =
          flat_kept f (λ a. is_some (item_at e.after a)) addresses
          (λ a none. h a (none_held new a (nothing_there (item_at e.after a) none)))
          ∙ ap (flat_map f)
          (standing_addresses e.after e.valid addresses search.order.rising
          ∙ ap addresses_of (found_items e changed addresses rows objective search)
          ∙ map-append (λ i. i.at) (groups_now e) (found_others rows objective))
          ∙ flat_map-append f (addresses_of (groups_now e))
          (addresses_of (found_others rows objective))
        where
          nothing_there : (o : Option Item) → is_some o ≡ false → o ≡ None
          nothing_there None t = refl
          nothing_there (Some i) t = absurd (true≢false t)

      module _ (leaves : List Item) (nodes : List KeptItem)
          (planned : IsPlanned e further rows objective leaves nodes) where
        pub leaves_planned : leaves ≡ leaves_held new addresses
        leaves_planned =
            planned.leaves_are
            ∙ ap (λ (c : ℕ → Choice). (worked_each c (worked c kind_count) (groups_now e)).leaves
            ++ (worked_in c (worked c kind_count) further (found_others rows objective)).leaves)
            (sym (new_choice e changed addresses rows objective search new))
            ∙ ap₂ ◌++◌ (sym (groups_leaves new (groups_now e) (groups_planned e changed addresses rows objective search new)))
            (sym (others_leaves new further (found_others rows objective) found_are))
            ∙ sym (held_where_found
            (λ at. option_map_or (λ (h : Held Item Entry). h.leaves) (held_of new at) [])
            (λ a none. ap (λ o. option_map_or (λ (h : Held Item Entry). h.leaves) o []) none))

        pub nodes_planned : nodes ≡ map kept_of (nodes_held new addresses)
        nodes_planned =
            planned.nodes_are
            ∙ sym (map-append kept_of (groups_held e).nodes (others_held e further rows objective).nodes)
            ∙ ap (λ (c : ℕ → Choice). map kept_of
            ((worked_each c (worked c kind_count) (groups_now e)).nodes
            ++ (worked_in c (worked c kind_count) further (found_others rows objective)).nodes))
            (sym (new_choice e changed addresses rows objective search new))
            ∙ ap (map kept_of)
            (ap₂ ◌++◌ (sym (groups_nodes new (groups_now e) (groups_planned e changed addresses rows objective search new)))
            (sym (others_nodes new further (found_others rows objective) found_are))
            ∙ sym (held_where_found
            (λ at. option_map_or (λ (h : Held Item Entry). h.nodes) (held_of new at) [])
            (λ a none. ap (λ o. option_map_or (λ (h : Held Item Entry). h.nodes) o []) none)))
