-- The tests for trees of an edit's step, on the items that are found: of the groups to be bridged anew,
-- and then of the rows and the objective. Each refusal is right: the first item without a tree is of the
-- kind that is answered, and where each has one, the first item that doesn't fit stands at the address.
use Rattle.std.specs.Prelude.{◌≡◌, ◌≢◌, ◌⊎◌, ℕ, Bool, true, false, List, [], All, Contains, filter, find, map, not, Option, Some, None, refl}
use Rattle.std.specs.Option.{option_map, option_or}
use Rattle.std.proofs.Common.{ap, ap₂, inl, inr, sym, subst, ◌∙◌, true≢false}
use Rattle.std.proofs.lemmas.List.Elements.{All-append, All-filter, All-weaker, filter-append}
use Rattle.std.proofs.lemmas.List.Folds.{find-append}
use Rattle.std.proofs.lemmas.Option.{none-some, same_Some}
use Rattle.aff_core.specs.Address.{Address}
use Rattle.bridge_face.specs.Law.{Miss}
use Rattle.bridge_plan.specs.Worked.{IsItemWithinLevels, worked, worked_each}
use Rattle.push_laws.specs.StayingLaws.{AreCompared, alike_by, group_stays_at, groups_stay, others_stay, own_stands}
use Rattle.push_laws.specs.Edits.{AreAllOwn, AreChanging, AttachedEdit, IsSearch, choice_here, groups_held, groups_now, missing_groups, missing_others, old_here, setting_here, sound_before, sound_behind, unfit_groups}
use Rattle.push_laws.specs.GivenLaws.{beside, given_here, groups_handed, has_here, unfound}
use Rattle.expansion.specs.Bridged.{EachBridged}
use Rattle.expansion.specs.Grown.{Held}
use Rattle.expansion.specs.GrownLaws.{held_each_once}
use Rattle.found_plan.specs.Read.{is_marked}
use Rattle.fresh_bridging.specs.Entries.{Entry, expression_in}
use Rattle.fresh_bridging.specs.ExistenceLaws.{groups_bridged}
use Rattle.fresh_bridging.specs.FreshBridging.{FreshBridging, HasTree, IsUnsupported, expression_of, unfit_at}
use Rattle.fresh_bridging.specs.ModelImage.{items_of, model_image}
use Rattle.fresh_bridging.specs.TheRules.{graph_of, rules_by}
use Rattle.fresh_bridging.specs.Touched.{item_at}
use Rattle.item_core.specs.Item.{functions_of, is_group}
use Rattle.item_core.specs.declared.image.Expression.{Expression}
use Rattle.item_core.specs.declared.item.Item.{Item}
use Rattle.item_core.specs.declared.kind.Kind.{Kind}
use Rattle.leaf_update.specs.LeavesLaws.{among_contained}
use Rattle.local_laws.specs.FittingLaws.{first_of_kept}
use Rattle.local_laws.specs.FoundLaws.{item_of_group}
use Rattle.local_laws.specs.GoneLaws.{all_kept, kept_in}
use Rattle.local_laws.specs.Held.{fits_at, is_there}
use Rattle.local_laws.specs.LookedLaws.{contains_or_not}
use Rattle.local_laws.specs.MentionLaws.{IsBesideGroups}
use Rattle.local_laws.specs.Stays.{StaysAt}
use Rattle.local_laws.specs.StaysLaws.{groups_are}
use Rattle.local_laws.specs.SupportedLaws.{GroupStays, OtherStays}
use Rattle.map_laws.specs.EachLaws.{all_both}
use Rattle.model_bridging.specs.Found.{found_others, kept_over}
use Rattle.model_bridging.specs.Kinds.{first_missing, kind_by, kinds_as_they_stand}
use Rattle.model_bridging.specs.ModelHeld.{unfit}
use Rattle.model_bridging.specs.PlanOutcome.{IsFirstAt}
use Rattle.push_laws.specs.AloneLaws.{groups_found, one_for_all, others_there}
use Rattle.push_laws.specs.HandedLaws.{is_found, others_handed}
use Rattle.push_laws.specs.KindsLaws.{bridged_found, groups_trees, unsupported_found_group, unsupported_found_other}
use Rattle.push_laws.specs.PlanLaws.{IsGroupOf, groups_unfit}
use Rattle.push_laws.specs.WithinLaws.{found_groups_within}
use Rattle.touched_items.specs.Differences.{own_variables}
use Rattle.touched_items.specs.ExpressionLaws.{stays_where}
use Rattle.touched_items.specs.HeldExpressions.{stays_as}
use Rattle.user_model.specs.declared.objective.Objective.{Objective}
use Rattle.user_model.specs.declared.row.Row.{Row}
use Rattle.item_core.specs.Kind.{kind_count}

-- ---- the variables for which something else stands

module _ (e : AttachedEdit) (standing : List Entry) (now : Address → Expression)
    (stands : (v : Address) → Contains (own_variables e.d) v → expression_in standing v ≡ now v) where
  abbrev changes : Address → Bool
  changes v = not (stays_as e.places v (expression_in standing v))

  is_not : (b : Bool) → not b ≡ true → b ≡ true → ⊥
  is_not true is was = true≢false (sym is)
  is_not false is was = true≢false (sym was)

  pub all_changed :
      All (λ v. expression_of (old_here e) v ≢ now v) (filter changes (own_variables e.d))
  all_changed =
      All-weaker (λ v. Contains (own_variables e.d) v × (changes v ≡ true))
      (λ v. expression_of (old_here e) v ≢ now v)
      (λ v k same. is_not (stays_as e.places v (expression_in standing v)) k.1
      ((stays_where (sound_before e) e.places (old_here e) (has_here e) v (expression_in standing v)).1
      (same ∙ sym (stands v k.0))))
      (filter changes (own_variables e.d)) (all_kept changes (own_variables e.d))

  is_true : (b : Bool) → not b ≡ false → b ≡ true
  is_true true is = refl
  is_true false is = absurd (true≢false is)

  -- for each other what stood stands, or no given group has it
  pub all_compared : (v : Address) → ¬ (Contains (filter changes (own_variables e.d)) v)
      → (expression_of (old_here e) v ≡ now v)
      ⊎ IsBesideGroups e.model e.after (given_here e) v
  all_compared v out = by (contains_or_not (own_variables e.d) v)
    where
      Compared : Type 0
      Compared =
          (expression_of (old_here e) v ≡ now v) ⊎ IsBesideGroups e.model e.after (given_here e) v

      tested : Contains (own_variables e.d) v → (b : Bool) → changes v ≡ b → Compared
      tested c true is = absurd (out (kept_in changes (own_variables e.d) v c is))
      tested c false is =
          inl ((stays_where (sound_before e) e.places (old_here e) (has_here e) v
          (expression_in standing v)).0
          (is_true (stays_as e.places v (expression_in standing v)) is) ∙ stands v c)

      by : Contains (own_variables e.d) v ⊎ (¬ (Contains (own_variables e.d) v)) → Compared
      by (inl c) = tested c (changes v) refl
      by (inr n) = inr (beside e v n)

module _ (e : AttachedEdit) where
  abbrev all_groups : List Item
  all_groups = (model_image e.after).groups

  left_out : (addresses : List Address) (i : Item) → is_found addresses i ≡ false
      → ¬ (Contains addresses i.at)
  left_out addresses i out c = true≢false (sym (among_contained i.at addresses c) ∙ out)

  -- ---- the given groups

  stay : All (λ g. is_found (given_here e) g ≡ false
      → GroupStays (old_here e) (setting_here e) (choice_here e) e.sound.chosen e.after g) all_groups
  stay = groups_stay e (is_found (given_here e)) (left_out (given_here e))

  -- `Unsupported` of `check_found_groups`
  pub unsupported_groups : (kind : Kind) → missing_groups e ≡ Some kind
      → IsUnsupported (setting_here e) e.after kind
  unsupported_groups kind missing =
      unsupported_found_group (sound_before e) (old_here e) (setting_here e) (choice_here e)
      e.sound.chosen e.after (sound_behind e) e.places (has_here e).marks (is_found (given_here e))
      stay kind
      (ap (λ l. first_missing (choice_here e) (kinds_as_they_stand l)) e.separates.behind ∙ missing)

  pub trees_here : missing_groups e ≡ None → All (HasTree (graph_of (setting_here e))) all_groups
  trees_here none =
      groups_trees (sound_before e) (old_here e) (setting_here e) (choice_here e)
      e.sound.chosen e.after (sound_behind e) e.places (has_here e).marks (is_found (given_here e))
      stay
      (ap (λ l. first_missing (choice_here e) (kinds_as_they_stand l)) e.separates.behind ∙ none)

  -- they may be planned
  pub groups_within : missing_groups e ≡ None
      → All (IsItemWithinLevels (choice_here e) kind_count) (groups_now e)
  groups_within none =
      subst (All (IsItemWithinLevels (choice_here e) kind_count)) e.separates.behind
      (found_groups_within (sound_behind e) (is_found (given_here e)) (choice_here e) e.sound.chosen
      (trees_here none))

  -- and the groups of the model are bridged
  pub all_bridged : missing_groups e ≡ None
      → (entries : List Entry) × EachBridged (rules_by (choice_here e)) all_groups entries
  all_bridged none =
      groups_bridged (setting_here e) e.sound.costly (choice_here e) e.sound.chosen e.sound.lawful
      e.after e.valid (trees_here none)

  -- what is planned of the given ones stands for their variables
  standing_stands : (none : missing_groups e ≡ None) (v : Address) → Contains (own_variables e.d) v
      → expression_in (groups_held e).entries v ≡ expression_in (all_bridged none).0 v
  standing_stands none v c =
      ap (λ l. expression_in (worked_each (choice_here e) (worked (choice_here e) kind_count) l).entries v)
      (sym e.separates.behind)
      ∙ own_stands e (all_bridged none).0 (all_bridged none).1 (is_found (given_here e))
      (left_out (given_here e))
      (subst (All (IsItemWithinLevels (choice_here e) kind_count)) (sym e.separates.behind)
      (groups_within none)) v c

  -- ---- what is found

  abbrev ComparesHere : missing_groups e ≡ None → List Address → Type 0
  ComparesHere none vars = AreCompared e (all_bridged none).0 (all_bridged none).1 vars

  changing_compared : (standing : List Entry) (changed : List Address)
      (changing : AreChanging e standing changed) → ComparesHere changing.trees changed
  changing_compared standing changed changing =
      subst (ComparesHere changing.trees) (sym changing.changes)
      (all_compared e standing (expression_in (all_bridged changing.trees).0)
      (λ v c. ap (λ f. f v) changing.stands ∙ standing_stands changing.trees v c))

  own_compared : (changed : List Address) (all : AreAllOwn e changed)
      → ComparesHere all.trees changed
  own_compared changed all =
      subst (ComparesHere all.trees) (sym all.all) (λ v out. inr (beside e v out))

  module _ (changed addresses : List Address) (rows : List Row) (objective : Option Objective)
      (search : IsSearch e changed addresses rows objective)
      (none : missing_groups e ≡ None) (compared : ComparesHere none changed) where
    abbrev keep : Item → Bool
    keep = is_found addresses

    abbrev entries : List Entry
    entries = (all_bridged none).0

    pub groups_same : filter keep all_groups ≡ groups_now e
    groups_same = groups_handed e changed addresses rows objective search

    same_missing : first_missing (choice_here e)
        (map (λ (i : Item).
        kind_by (kept_over (choice_here e) (is_marked e.places) (filter keep all_groups)) i.body)
        (filter keep (model_image e.after).others))
        ≡ missing_others e rows objective
    same_missing =
        ap₂ (λ gs os. first_missing (choice_here e)
        (map (λ (i : Item). kind_by (kept_over (choice_here e) (is_marked e.places) gs) i.body) os))
        groups_same
        (others_handed e.after e.valid addresses search.order.rising
        ∙ ap₂ found_others (sym search.rows_are) (sym search.objective_is))

    others_found : All (λ c. keep c ≡ false → OtherStays (old_here e) (setting_here e) (choice_here e)
        e.sound.chosen e.after entries c) (model_image e.after).others
    others_found =
        others_stay e entries (all_bridged none).1 changed compared addresses search.order keep
        (left_out addresses)

    groups_found_stay : All (λ g. keep g ≡ false
        → GroupStays (old_here e) (setting_here e) (choice_here e) e.sound.chosen e.after g) all_groups
    groups_found_stay =
        groups_stay e keep (λ i out. unfound e changed addresses rows objective search i out)

    unsupported : (kind : Kind) → missing_others e rows objective ≡ Some kind
        → IsUnsupported (setting_here e) e.after kind
    unsupported kind missing =
        unsupported_found_other (sound_before e) (old_here e) (setting_here e) (choice_here e)
        e.sound.chosen e.after (sound_behind e) e.places (has_here e).marks keep groups_found_stay
        (trees_here none) entries (all_bridged none).1 others_found kind (same_missing ∙ missing)

    supported : missing_others e rows objective ≡ None → FreshBridging (setting_here e) e.after
    supported missing =
        bridged_found (sound_before e) (old_here e) (setting_here e) (choice_here e)
        e.sound.chosen e.after (sound_behind e) e.places (has_here e).marks keep groups_found_stay
        (trees_here none) entries (all_bridged none).1 others_found (same_missing ∙ missing)

    module _ (new : FreshBridging (setting_here e) e.after) where
      pub same_choice : new.choice ≡ choice_here e
      same_choice =
          one_for_all (setting_here e) e.sound.costly new.choice (choice_here e) new.chosen
          e.sound.chosen

      same_entries : entries ≡ new.made.entries
      same_entries =
          ap (λ (h : Held Item Entry). h.entries)
          (held_each_once (all_bridged none).1
          (subst (λ c. EachBridged (rules_by c) all_groups new.made.entries) same_choice
          new.made.groups))

      -- each item that isn't found stays
      group_stays : (g : Item) → find (is_there g.at) all_groups ≡ Some g
          → is_group g.body ≡ true → keep g ≡ false → StaysAt (old_here e) new g.at
      group_stays g f group out =
          let apart = unfound e changed addresses rows objective search g out in
          let same = e.separates.same g.at apart in
          group_stays_at e new same_choice g.at g same (same ∙ item_of_group e.after g.at g f) group
          apart

      other_stays : (c : Item) → item_at e.after c.at ≡ Some c → keep c ≡ false
          → OtherStays (old_here e) (setting_here e) (choice_here e) e.sound.chosen e.after entries c
          → StaysAt (old_here e) new c.at
      other_stays c is out stays =
          let apart = unfound e changed addresses rows objective search c out in
          let same = e.separates.same c.at apart in
          record {
            same = same;
            alike = alike_by e new same_choice c.at apart;
            agree = λ item found other v names.
                stays.agree v (subst (λ (i : Item). ¬ (Miss (functions_of i.body) v))
                (same_Some item c (sym found ∙ same ∙ is)) names)
                ∙ ap (λ l. expression_in l v) same_entries;
          }

      unfound_stay : All (λ i. keep i ≡ false → StaysAt (old_here e) new i.at) (items_of e.after)
      unfound_stay =
          All-append (λ i. keep i ≡ false → StaysAt (old_here e) new i.at) all_groups
          (model_image e.after).others
          (All-weaker
          (λ g. (find (is_there g.at) all_groups ≡ Some g) × (is_group g.body ≡ true))
          (λ i. keep i ≡ false → StaysAt (old_here e) new i.at)
          (λ g k out. group_stays g k.0 k.1 out) all_groups
          (all_both (λ g. find (is_there g.at) all_groups ≡ Some g)
          (λ g. is_group g.body ≡ true) all_groups
          (groups_found e.after e.valid) (groups_are e.after)))
          (All-weaker
          (λ c. (item_at e.after c.at ≡ Some c)
          × (keep c ≡ false → OtherStays (old_here e) (setting_here e) (choice_here e) e.sound.chosen
          e.after entries c))
          (λ i. keep i ≡ false → StaysAt (old_here e) new i.at)
          (λ c k out. other_stays c k.0 out (k.1 out)) (model_image e.after).others
          (all_both (λ c. item_at e.after c.at ≡ Some c)
          (λ c. keep c ≡ false → OtherStays (old_here e) (setting_here e) (choice_here e)
          e.sound.chosen e.after entries c)
          (model_image e.after).others
          (others_there e.after e.valid) others_found))

      -- ---- what fits

      -- the given groups are groups of the bridging
      groups_of : All (IsGroupOf new) (groups_now e)
      groups_of =
          All-weaker
          (λ g. (find (is_there g.at) all_groups ≡ Some g) × IsItemWithinLevels (choice_here e) kind_count g)
          (IsGroupOf new)
          (λ g h. record {
            stands = h.0;
            within = subst (λ c. IsItemWithinLevels c kind_count g) (sym same_choice) h.1;
          }) (groups_now e)
          (all_both (λ g. find (is_there g.at) all_groups ≡ Some g)
          (IsItemWithinLevels (choice_here e) kind_count) (groups_now e)
          (subst (All (λ g. find (is_there g.at) all_groups ≡ Some g)) groups_same
          (All-filter keep (λ g. find (is_there g.at) all_groups ≡ Some g) all_groups
          (groups_found e.after e.valid)))
          (groups_within none))

      abbrev Unfit : Item → Bool
      Unfit i = not (fits_at new i.at)

      first_group : find Unfit (filter keep all_groups) ≡ unfit_groups e
      first_group =
          ap (find Unfit) groups_same
          ∙ groups_unfit new (groups_now e) groups_of
          ∙ ap (λ c. unfit c kind_count (groups_now e)) same_choice

      pub unfit_first : (at : Address) → IsFirstAt (unfit_groups e) at → unfit_at new ≡ Some at
      unfit_first at first =
          first_of_kept (sound_before e) (sound_behind e) (old_here e) new e.held.made
          keep unfound_stay
          ∙ ap (λ l. option_map (λ (i : Item). i.at) (find Unfit l))
          (filter-append keep all_groups (model_image e.after).others)
          ∙ ap (option_map (λ (i : Item). i.at))
          (find-append Unfit (filter keep all_groups)
          (filter keep (model_image e.after).others)
          ∙ ap (λ o. option_or o
          (find Unfit (filter keep (model_image e.after).others))) first_group)
          ∙ by (unfit_groups e) first
        where
          by : (o : Option Item) → option_map (λ (i : Item). i.at) o ≡ Some at
              → option_map (λ (i : Item). i.at) (option_or o
              (find Unfit (filter keep (model_image e.after).others))) ≡ Some at
          by None k = absurd (none-some at k)
          by (Some i) k = k

  -- ---- the answers

  module _ (changed addresses : List Address) (rows : List Row) (objective : Option Objective)
      (search : IsSearch e changed addresses rows objective) where
    -- `Unsupported` of `check_found`, where the groups are planned
    pub unsupported_others : (standing : List Entry) → AreChanging e standing changed → (kind : Kind)
        → missing_others e rows objective ≡ Some kind
        → IsUnsupported (setting_here e) e.after kind
    unsupported_others standing changing kind missing =
        unsupported changed addresses rows objective search changing.trees
        (changing_compared standing changed changing) kind missing

    -- where none is there is the fresh bridging
    pub bridged : (standing : List Entry) → AreChanging e standing changed
        → missing_others e rows objective ≡ None → FreshBridging (setting_here e) e.after
    bridged standing changing missing =
        supported changed addresses rows objective search changing.trees
        (changing_compared standing changed changing) missing

    -- and where a number of the groups doesn't fit
    pub unsupported_wide : AreAllOwn e changed → (kind : Kind)
        → missing_others e rows objective ≡ Some kind
        → IsUnsupported (setting_here e) e.after kind
    unsupported_wide all kind missing =
        unsupported changed addresses rows objective search all.trees
        (own_compared changed all) kind missing

    -- `Overflow` of `plan_found_groups`
    pub overflow_groups : AreAllOwn e changed → missing_others e rows objective ≡ None
        → (at : Address) → IsFirstAt (unfit_groups e) at
        → (bridging : FreshBridging (setting_here e) e.after) × (unfit_at bridging ≡ Some at)
    overflow_groups all missing at first =
        let compared = own_compared changed all in
        let new = supported changed addresses rows objective search all.trees compared missing in (
          new,
          unfit_first changed addresses rows objective search all.trees compared new at first,
        )
