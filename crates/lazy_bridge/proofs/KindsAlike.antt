-- An item whose kind isn't changed chooses by other choices as it did, at each node and leaf below it. One
-- whose kind is changed doesn't.
use Rattle.std.specs.Prelude.{◌≡◌, ◌⊎◌, ℕ, Bool, true, false, List, All, Contains, Some, None, find, refl}
use Rattle.std.proofs.Common.{arith, inl, inr, ap, sym, subst, ◌∙◌, true≢false}
use Rattle.std.proofs.lemmas.List.Elements.{All-contains, All-contains_itself, All-head, All-tail, All-weaker, Contains-append_cases, Contains-append_left, Contains-append_right}
use Rattle.address_map.specs.AddressMap.{AddressMap}
use Rattle.aff_core.specs.Address.{Address}
use Rattle.bridge_graph.specs.declared.Choice.{Choice}
use Rattle.push_laws.specs.Edits.{KeepsAt}
use Rattle.expansion.specs.Bridged.{EachBridged, EachBridgedIn, each, each_in, none, none_in}
use Rattle.found_plan.specs.KindLaws.{others_alike}
use Rattle.found_plan.specs.Marked.{plain_in, plain_in_objective}
use Rattle.found_plan.specs.Read.{is_marked}
use Rattle.fresh_bridging.specs.CanLaws.{Can}
use Rattle.fresh_bridging.specs.Entries.{is_kept, put_in}
use Rattle.fresh_bridging.specs.ExistenceLaws.{groups_can_all, others_can_all, trees_of_bridged}
use Rattle.fresh_bridging.specs.FreshBridging.{FreshBridging, expression_of}
use Rattle.fresh_bridging.specs.ModelImage.{items_of, model_image}
use Rattle.fresh_bridging.specs.OmitLaws.{IsGroup}
use Rattle.fresh_bridging.specs.RankingLaws.{at_most_34}
use Rattle.fresh_bridging.specs.TheRules.{Setting, rules_by}
use Rattle.fresh_bridging.specs.Touched.{IsTouched, KeepsAtEach, KeepsAtIn, choice_of_item, chosen}
use Rattle.item_core.specs.Item.{is_group}
use Rattle.item_core.specs.KindOf.{kind_of_body}
use Rattle.item_core.specs.declared.item.Body.{Body}
use Rattle.item_core.specs.declared.item.Body.TheVariants.{Group as GroupBody, Free}
use Rattle.item_core.specs.declared.item.Item.{Item}
use Rattle.item_core.specs.declared.kind.Kind.{Kind}
use Rattle.table_change.specs.ChangedKindLaws.{IsUnchanged, keeps_unchanged, unchanged_keeps}
use Rattle.table_change.specs.ChangedKinds.{is_changed}
use Rattle.local_laws.specs.Held.{is_there}
use Rattle.local_laws.specs.HeldLaws.{held_each_at, held_in_at}
use Rattle.local_laws.specs.Sound.{IsValidUnder}
use Rattle.local_laws.specs.StaysLaws.{groups_are}
use Rattle.map_laws.specs.EachLaws.{all_both}
use Rattle.model_bridging.specs.Kinds.{kind_by, kind_by_is}
use Rattle.push_laws.specs.AgreeLaws.{own_variables as own_of}
use Rattle.push_laws.specs.AloneLaws.{groups_found, others_found}
use Rattle.table_change.specs.Given.{AreGiven, is_given}
use Rattle.lazy_bridge.proofs.GivenKinds.{given_there, there_given}
use Rattle.touched_items.specs.Differences.{differing_addresses}
use Rattle.touched_items.specs.ExpressionLaws.{HasExpressions}
use Rattle.touched_items.specs.declared.differing.Differing.{Differing}
use Rattle.user_model.specs.Model.{ModelValue}
use Rattle.item_core.specs.Kind.{kind_count}
use Rattle.push_laws.specs.PlainLaws.{each_same, objective_plain, rows_plain}

module _ {setting : Setting} {model : ModelValue} (sound : IsValidUnder setting model)
    (old : FreshBridging setting model) (m : AddressMap) (has : HasExpressions m old)
    (other : ℕ → Choice) where
  abbrev changed : Kind → Bool
  changed k = is_changed old.choice other kind_count k

  abbrev pub GivenBy : Item → Bool
  GivenBy = is_given changed (is_marked m)

  -- ---- kinds as they are bridged

  group_kind : (b : Body) → is_group b ≡ true → kind_by (is_marked m) b ≡ kind_of_body b
  unfolding kind_of_body
  group_kind (GroupBody s vars) group = refl
  group_kind (Free vars) group = refl
  group_kind _ group = absurd (true≢false (sym group))

  abbrev kept_here : Address → Bool
  kept_here v = is_kept (expression_of old v)

  abbrev IsKindOf : Item → Type 0
  IsKindOf c = kind_by (is_marked m) c.body ≡ kind_of_body (put_in old.made.entries c).body

  other_kinds : All IsKindOf (model_image model).others
  other_kinds =
      All-weaker (λ (c : Item). kind_by (is_marked m) c.body ≡ kind_by kept_here c.body) IsKindOf
      (λ c e. e ∙ kind_by_is old.made.entries kept_here (λ v. refl) c.body)
      (model_image model).others
      (each_same (λ (c : Item). kind_by (is_marked m) c.body) (λ (c : Item). kind_by kept_here c.body)
      (model_image model).others
      (others_alike (is_marked m) kept_here model.rows (Some model.objective)
      (All-weaker (Contains (own_of model.groups)) (λ v. is_marked m v ≡ kept_here v) has.marks
      (plain_in model.rows)
      (rows_plain model.groups model.rows sound.valid.parts.valid_rows))
      (All-weaker (Contains (own_of model.groups)) (λ v. is_marked m v ≡ kept_here v) has.marks
      (plain_in_objective model.objective)
      (objective_plain model.groups model.objective sound.valid.parts.valid_objective.stand))))

  -- ---- each item can be bridged

  abbrev CanBe : Item → Type 0
  CanBe item = Can setting sound.costly old.choice old.chosen item

  abbrev Unchanged : Item → Type 0
  Unchanged item =
      IsUnchanged setting sound.costly old.choice old.chosen sound.lawful other kind_count item

  groups_can : All CanBe (model_image model).groups
  groups_can =
      All-weaker (λ g. IsGroup setting sound.costly old.choice old.chosen sound.lawful g) CanBe
      (λ g h. h.can) (model_image model).groups
      (groups_can_all setting sound.costly old.choice old.chosen sound.lawful model sound.valid
      (trees_of_bridged setting sound.costly old.choice old.chosen sound.lawful (model_image model)
      old.made).0)

  others_can : All (λ c. CanBe (put_in old.made.entries c)) (model_image model).others
  others_can =
      others_can_all setting sound.costly old.choice old.chosen sound.lawful model sound.valid
      old.made.entries old.made.groups
      (trees_of_bridged setting sound.costly old.choice old.chosen sound.lawful (model_image model)
      old.made).1

  unchanged_where : (item : Item) → CanBe item → changed (kind_of_body item.body) ≡ false
      → Unchanged item
  unchanged_where item can same = record {
    can = can;
    levels = omega (
      arith,
      at_most_34 setting sound.costly old.choice old.chosen (kind_of_body item.body),
    );
    unchanged = same;
  }

  -- ---- at an address

  module _ (at : Address) where
    each_keeps_at : {items : List Item} {entries : List _}
        (trees : EachBridged (rules_by old.choice) items entries)
        → All (λ i. i.at ≡ at → Unchanged i) items
        → KeepsAtEach (choice_of_item other) at trees
    unfolding KeepsAtEach
    each_keeps_at none h = tt
    each_keeps_at (each {item} {items} first rest) h = (
      λ here. unchanged_keeps setting sound.costly old.choice old.chosen sound.lawful other kind_count
          (All-head (λ i. i.at ≡ at → Unchanged i) item items h here) first,
      each_keeps_at rest (All-tail (λ i. i.at ≡ at → Unchanged i) item items h),
    )

    rest_keeps_at : {inner : List _} {items : List Item}
        (trees : EachBridgedIn (rules_by old.choice) inner items)
        → All (λ i. i.at ≡ at → Unchanged (put_in inner i)) items
        → KeepsAtIn (choice_of_item other) at trees
    unfolding KeepsAtIn
    rest_keeps_at none_in h = tt
    rest_keeps_at (each_in {inner} {item} {items} first rest) h = (
      λ here. unchanged_keeps setting sound.costly old.choice old.chosen sound.lawful other kind_count
          (All-head (λ i. i.at ≡ at → Unchanged (put_in inner i)) item items h here) first,
      rest_keeps_at rest (All-tail (λ i. i.at ≡ at → Unchanged (put_in inner i)) item items h),
    )

  module _ (d : Differing) (before : AreGiven changed (is_marked m) model d.before)
      (behind : AreGiven changed (is_marked m) model d.after) where
    not_given : (at : Address) → ¬ (Contains (differing_addresses d) at) → (i : Item)
        → Contains (items_of model) i → i.at ≡ at → GivenBy i ≡ false
    not_given at out i inside here = by (GivenBy i) refl
      where
        by : (b : Bool) → GivenBy i ≡ b → b ≡ false
        by false e = refl
        by true e =
            absurd (out (subst (Contains (differing_addresses d)) here
            (there_given changed (is_marked m) model sound.valid d before behind i inside e)))

    -- what isn't given chooses as it did
    pub alike_beside : (at : Address) → ¬ (Contains (differing_addresses d) at)
        → KeepsAt old other at
    alike_beside at out = (
      each_keeps_at at old.made.groups
          (All-weaker
          (λ g. Contains (model_image model).groups g × ((is_group g.body ≡ true) × CanBe g))
          (λ g. g.at ≡ at → Unchanged g)
          (λ g h here. unchanged_where g h.1.1
          (ap changed (sym (group_kind g.body h.1.0))
          ∙ not_given at out g
          (Contains-append_left (model_image model).groups (model_image model).others g h.0) here))
          (model_image model).groups
          (all_both (Contains (model_image model).groups)
          (λ g. (is_group g.body ≡ true) × CanBe g) (model_image model).groups
          (All-contains_itself (model_image model).groups)
          (all_both (λ g. is_group g.body ≡ true) CanBe (model_image model).groups
          (groups_are model) groups_can))),
      rest_keeps_at at old.made.others
          (All-weaker
          (λ c. Contains (model_image model).others c
          × (IsKindOf c × CanBe (put_in old.made.entries c)))
          (λ c. c.at ≡ at → Unchanged (put_in old.made.entries c))
          (λ c h here. unchanged_where (put_in old.made.entries c) h.1.1
          (ap changed (sym h.1.0)
          ∙ not_given at out c
          (Contains-append_right (model_image model).groups (model_image model).others c h.0) here))
          (model_image model).others
          (all_both (Contains (model_image model).others)
          (λ c. IsKindOf c × CanBe (put_in old.made.entries c)) (model_image model).others
          (All-contains_itself (model_image model).others)
          (all_both IsKindOf (λ c. CanBe (put_in old.made.entries c)) (model_image model).others
          other_kinds others_can))),
    )

    -- ---- and what is given doesn't

    group_breaks : (at : Address) → KeepsAt old other at → (g : Item)
        → Contains (model_image model).groups g → g.at ≡ at → GivenBy g ≡ false
    group_breaks at keeps g inside here =
        let held = held_each_at (choice_of_item other) at old.made.groups keeps.0 g
        (subst (λ a. find (is_there a) (model_image model).groups ≡ Some g) here
        (All-contains (λ g. find (is_there g.at) (model_image model).groups ≡ Some g)
        (model_image model).groups g (groups_found model sound.valid) inside)) in
        ap changed (group_kind g.body
        (All-contains (λ g. is_group g.body ≡ true) (model_image model).groups g (groups_are model)
        inside))
        ∙ keeps_unchanged setting sound.costly old.choice old.chosen sound.lawful other kind_count
        (All-contains CanBe (model_image model).groups g groups_can inside) held.tree held.keeps

    other_breaks : (at : Address) → KeepsAt old other at → (c : Item)
        → Contains (model_image model).others c → c.at ≡ at → GivenBy c ≡ false
    other_breaks at keeps c inside here =
        let held = held_in_at (choice_of_item other) at old.made.others keeps.1 c
        (subst (λ a. find (is_there a) (model_image model).others ≡ Some c) here
        (All-contains (λ c. (find (is_there c.at) (model_image model).groups ≡ None)
        × (find (is_there c.at) (model_image model).others ≡ Some c))
        (model_image model).others c (others_found model sound.valid) inside).1) in
        ap changed (All-contains IsKindOf (model_image model).others c other_kinds inside)
        ∙ keeps_unchanged setting sound.costly old.choice old.chosen sound.lawful other kind_count
        (All-contains (λ c. CanBe (put_in old.made.entries c)) (model_image model).others c others_can
        inside) held.tree held.keeps

    pub given_breaks : (at : Address) → Contains (differing_addresses d) at
        → ¬ (KeepsAt old other at)
    given_breaks at c keeps =
        let r = given_there changed (is_marked m) model sound.valid d before behind at c in
        true≢false (sym r.2
        ∙ by r.0 r.3 (Contains-append_cases (model_image model).groups (model_image model).others r.0
        r.1))
      where
        by : (i : Item) → i.at ≡ at
            → Contains (model_image model).groups i ⊎ Contains (model_image model).others i
            → GivenBy i ≡ false
        by i here (inl k) = group_breaks at keeps i k here
        by i here (inr k) = other_breaks at keeps i k here

    -- so it is touched by any bridging with the other choices
    pub given_touched : {next : Setting} (new : FreshBridging next model) → new.choice ≡ other
        → All (IsTouched old new) (differing_addresses d)
    given_touched new same =
        All-weaker (Contains (differing_addresses d)) (IsTouched old new)
        (λ at c. chosen (inl (λ alike. given_breaks at c
        (subst (λ o. KeepsAt old o at) same (alike.groups, alike.others)))))
        (differing_addresses d) (All-contains_itself (differing_addresses d))
