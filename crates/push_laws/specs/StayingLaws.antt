-- With the groups of the model after an edit bridged: what of them and of the other items stays as it
-- was, and that what is planned of the given groups stands for their variables.
use Rattle.std.specs.Prelude.{◌≡◌, ◌⊎◌, ◌++◌, ℕ, Bool, true, false, cond, List, [], ◌∷◌, All, Contains, filter, find as first_passing, flat_map, map, Some, refl}
use Rattle.std.proofs.Common.{inl, inr, ap, sym, subst, ◌∙◌, true≢false}
use Rattle.std.proofs.lemmas.List.Elements.{All-append, All-contains, All-contains_itself, All-head, All-nil, All-tail, All-weaker, Contains-append_cases}
use Rattle.std.proofs.lemmas.Option.{same_Some}
use Rattle.address_map.specs.Noted.{noted_items}
use Rattle.aff_core.specs.Address.{Address}
use Rattle.bridge_plan.specs.Worked.{IsItemWithinLevels, worked, worked_each}
use Rattle.push_laws.specs.Edits.{AttachedEdit, KeepsAt, choice_here, old_here, setting_here, sound_before}
use Rattle.push_laws.specs.GivenLaws.{IsGivenAt, before_given, given_here, groups_given, index_here}
use Rattle.expansion.specs.Bridged.{EachBridged}
use Rattle.fresh_bridging.specs.Entries.{Entry, expression_in}
use Rattle.fresh_bridging.specs.ExistenceLaws.{groups_can_all, trees_of_bridged}
use Rattle.fresh_bridging.specs.FreshBridging.{FreshBridging, expression_of}
use Rattle.fresh_bridging.specs.ModelImage.{group_item, model_image}
use Rattle.fresh_bridging.specs.TheRules.{rules_by}
use Rattle.fresh_bridging.specs.Touched.{ChoosesAlike, item_at}
use Rattle.item_core.specs.Item.{is_group, variables_of}
use Rattle.item_core.specs.declared.item.Item.{Item}
use Rattle.local_laws.specs.FoundLaws.{expression_stays, in_groups, item_of_group}
use Rattle.local_laws.specs.Held.{HasOwn, is_there}
use Rattle.local_laws.specs.JoinedLaws.{one_owner}
use Rattle.local_laws.specs.LookedLaws.{contains_or_not}
use Rattle.local_laws.specs.MentionLaws.{IsBesideGroups}
use Rattle.local_laws.specs.Owner.{IsOwner}
use Rattle.local_laws.specs.Sound.{IsValidUnder}
use Rattle.local_laws.specs.Stays.{StaysAt}
use Rattle.local_laws.specs.StaysLaws.{groups_are, others_are}
use Rattle.local_laws.specs.SupportedLaws.{GroupStays, OtherStays}
use Rattle.map_laws.specs.EachLaws.{all_both}
use Rattle.push_laws.specs.AloneLaws.{alone_by, groups_found, in_others, only_groups, only_groups_valid, others_there}
use Rattle.push_laws.specs.StandingLaws.{standing_is}
use Rattle.touched_items.specs.Differences.{groups_in, own_variables, variables_in}
use Rattle.touched_items.specs.Search.{AreInOrder}
use Rattle.touched_items.specs.SearchLaws.{in_order_noted}
use Rattle.user_model.specs.Model.{ModelValue, variable_address}
use Rattle.user_model.specs.declared.group.Group.{Group}
use Rattle.user_model.specs.declared.group.GroupVar.{GroupVar}
use Rattle.item_core.specs.Kind.{kind_count}

module _ (e : AttachedEdit) where
  -- what isn't given chooses as it did
  pub alike_by : {m : ModelValue} (new : FreshBridging (setting_here e) m)
      → new.choice ≡ choice_here e → (at : Address) → ¬ (Contains (given_here e) at)
      → ChoosesAlike (old_here e) new at
  alike_by new is at out =
      let keeps = subst (λ c. KeepsAt (old_here e) c at) (sym is) (e.alike at out) in record {
        groups = keeps.0;
        others = keeps.1;
      }

  -- so a group that stands on both sides stays as it was
  pub group_stays_at : {m : ModelValue} (new : FreshBridging (setting_here e) m)
      → new.choice ≡ choice_here e → (at : Address) (item : Item)
      → item_at e.model at ≡ item_at m at → item_at e.model at ≡ Some item
      → is_group item.body ≡ true → ¬ (Contains (given_here e) at) → StaysAt (old_here e) new at
  group_stays_at new choice at item same is group out = record {
    same = same;
    alike = alike_by new choice at out;
    agree = λ other found no_group v mentions. absurd (true≢false (sym group
        ∙ ap (λ (i : Item). is_group i.body) (same_Some item other (sym is ∙ found)) ∙ no_group));
  }

  pub groups_stay : (keep : Item → Bool)
      → ((i : Item) → keep i ≡ false → ¬ (Contains (given_here e) i.at))
      → All (λ g. keep g ≡ false
      → GroupStays (old_here e) (setting_here e) (choice_here e) e.sound.chosen e.after g)
      (model_image e.after).groups
  groups_stay keep left =
      All-weaker
      (λ g. (first_passing (is_there g.at) (model_image e.after).groups ≡ Some g)
      × (is_group g.body ≡ true))
      (λ g. keep g ≡ false
      → GroupStays (old_here e) (setting_here e) (choice_here e) e.sound.chosen e.after g)
      (λ g h k. record {
        stood = in_groups e.model g.at g
            (e.separates.same g.at (left g k) ∙ item_of_group e.after g.at g h.0) h.1;
        alike = (e.alike g.at (left g k)).0;
      })
      (model_image e.after).groups
      (all_both (λ g. first_passing (is_there g.at) (model_image e.after).groups ≡ Some g)
      (λ g. is_group g.body ≡ true) (model_image e.after).groups (groups_found e.after e.valid)
      (groups_are e.after))

  -- ---- with the groups bridged

  module _ (entries : List Entry)
      (trees : EachBridged (rules_by (choice_here e)) (model_image e.after).groups entries) where
    abbrev alone : FreshBridging (setting_here e) (only_groups e.after)
    alone = alone_by (setting_here e) (choice_here e) e.sound.chosen e.after entries trees

    sound_alone : IsValidUnder (setting_here e) (only_groups e.after)
    sound_alone = record {
      costly = e.sound.costly;
      lawful = e.sound.lawful;
      valid = only_groups_valid e.after e.valid;
    }

    -- what stands for a variable of no given group is what did
    pub beside_stays : (v : Address) → IsBesideGroups e.model e.after (given_here e) v
        → expression_of (old_here e) v ≡ expression_in entries v
    beside_stays v beside =
        expression_stays (sound_before e) sound_alone (old_here e) alone v (record {
          before = λ at item is group own.
              was at item is group own (contains_or_not (given_here e) at);
          behind = λ at item is group own. now at item
              (item_of_group e.after at item (in_groups (only_groups e.after) at item is group)) is
              group own (contains_or_not (given_here e) at);
        })
      where
        was : (at : Address) (item : Item) → item_at e.model at ≡ Some item
            → is_group item.body ≡ true → HasOwn v item
            → Contains (given_here e) at ⊎ (¬ (Contains (given_here e) at))
            → StaysAt (old_here e) alone at
        was at item is group own (inl c) = absurd (beside.before at item c is group own)
        was at item is group own (inr n) =
            group_stays_at alone refl at item
            (is ∙ sym (item_of_group (only_groups e.after) at item
            (in_groups e.after at item (sym (e.separates.same at n) ∙ is) group))) is group n

        now : (at : Address) (item : Item) → item_at e.after at ≡ Some item
            → item_at (only_groups e.after) at ≡ Some item → is_group item.body ≡ true
            → HasOwn v item → Contains (given_here e) at ⊎ (¬ (Contains (given_here e) at))
            → StaysAt (old_here e) alone at
        now at item is there group own (inl c) = absurd (beside.behind at item c is group own)
        now at item is there group own (inr n) =
            group_stays_at alone refl at item (e.separates.same at n ∙ is ∙ sym there)
            (e.separates.same at n ∙ is) group n

    -- ---- rows and the objective, by variables

    -- what stands for another variable is what did, or no given group has it
    abbrev pub AreCompared : List Address → Type 0
    AreCompared vars =
        (v : Address) → ¬ (Contains vars v)
        → (expression_of (old_here e) v ≡ expression_in entries v)
        ⊎ IsBesideGroups e.model e.after (given_here e) v

    module _ (vars : List Address) (compared : AreCompared vars) where
      pub expression_same : (v : Address) → ¬ (Contains vars v)
          → expression_of (old_here e) v ≡ expression_in entries v
      expression_same v n = by (compared v n)
        where
          by : (expression_of (old_here e) v ≡ expression_in entries v)
              ⊎ IsBesideGroups e.model e.after (given_here e) v
              → expression_of (old_here e) v ≡ expression_in entries v
          by (inl same) = same
          by (inr beside) = beside_stays v beside

      -- a row or an objective that isn't found is as it was, and so is all that it names
      pub others_stay : (addresses : List Address)
          → AreInOrder (given_here e ++ flat_map (noted_items e.places.noted) vars) addresses
          → (keep : Item → Bool) → ((i : Item) → keep i ≡ false → ¬ (Contains addresses i.at))
          → All (λ c. keep c ≡ false → OtherStays (old_here e) (setting_here e) (choice_here e)
          e.sound.chosen e.after entries c) (model_image e.after).others
      others_stay addresses order keep left =
          All-weaker (λ c. (item_at e.after c.at ≡ Some c) × (is_group c.body ≡ false))
          (λ c. keep c ≡ false → OtherStays (old_here e) (setting_here e) (choice_here e)
          e.sound.chosen e.after entries c)
          (λ c h k. stays c h.0 h.1 (left c k)) (model_image e.after).others
          (all_both (λ c. item_at e.after c.at ≡ Some c) (λ c. is_group c.body ≡ false)
          (model_image e.after).others (others_there e.after e.valid) (others_are e.after))
        where
          found : (at : Address)
              → Contains (given_here e) at
              ⊎ ((v : Address) × Contains vars v × Contains (noted_items e.places.noted v) at)
              → Contains addresses at
          found at k =
              (in_order_noted (given_here e) vars (noted_items e.places.noted) addresses order at).1 k

          stays : (c : Item) → item_at e.after c.at ≡ Some c → is_group c.body ≡ false
              → ¬ (Contains addresses c.at)
              → OtherStays (old_here e) (setting_here e) (choice_here e) e.sound.chosen e.after
              entries c
          stays c is other out =
              let apart : ¬ (Contains (given_here e) c.at) = λ d. out (found c.at (inl d)) in
              let was : item_at e.model c.at ≡ Some c = e.separates.same c.at apart ∙ is in
              record {
                stood = in_others e.model c.at c was other;
                alike = (e.alike c.at apart).1;
                agree = λ v names. expression_same v (λ k. out (found c.at
                    (inr (v, k, (index_here e v c.at).1 (c, was, other, names)))));
              }

    -- ---- the given groups

    -- one of them has the variable
    abbrev Owned : ModelValue → Address → Type 0
    Owned m v = (at : Address) × Contains (given_here e) at × IsOwner m v at

    owner_here : {m : ModelValue} (v : Address) (g : Item) → item_at m g.at ≡ Some g
        → is_group g.body ≡ true → Contains (variables_of g.body) v → IsOwner m v g.at
    owner_here v g is group own = record {
      item = g;
      is = is;
      mine = inr (subst (λ b. Contains (cond b (variables_of g.body) []) v) (sym group) own);
    }

    each_owned : (m : ModelValue) (gs : List Group)
        → All (λ g. IsGivenAt m (given_here e) (group_item g)) gs
        → All (Owned m) (variables_in gs)
    each_owned m [] given = All-nil (Owned m)
    each_owned m (g ∷ gs) given =
        let is = All-head (λ g. IsGivenAt m (given_here e) (group_item g)) g gs given in
        let own = map (λ (v : GroupVar). variable_address v.number) g.vars in
        All-append (Owned m) own (variables_in gs)
        (All-weaker (Contains own) (Owned m)
        (λ v c. ((group_item g).at, is.1, owner_here v (group_item g) is.0 refl c)) own
        (All-contains_itself own))
        (each_owned m gs
        (All-tail (λ g. IsGivenAt m (given_here e) (group_item g)) g gs given))

    module _ (keep : Item → Bool)
        (left : (i : Item) → keep i ≡ false → ¬ (Contains (given_here e) i.at)) where
      -- a group that is left out has none of their variables
      pub without : (v : Address) → Contains (own_variables e.d) v
          → All (λ g. keep g ≡ false → ¬ (Contains (variables_of g.body) v))
          (model_image e.after).groups
      without v c =
          All-weaker
          (λ g. (first_passing (is_there g.at) (model_image e.after).groups ≡ Some g)
          × (is_group g.body ≡ true))
          (λ g. keep g ≡ false → ¬ (Contains (variables_of g.body) v))
          (λ g f k own. by g f.0 f.1 (left g k) own
          (Contains-append_cases (variables_in (groups_in e.d.before))
          (variables_in (groups_in e.d.after)) v c))
          (model_image e.after).groups
          (all_both (λ g. first_passing (is_there g.at) (model_image e.after).groups ≡ Some g)
          (λ g. is_group g.body ≡ true) (model_image e.after).groups
          (groups_found e.after e.valid) (groups_are e.after))
        where
          by : (g : Item) → first_passing (is_there g.at) (model_image e.after).groups ≡ Some g
              → is_group g.body ≡ true → ¬ (Contains (given_here e) g.at)
              → Contains (variables_of g.body) v
              → Contains (variables_in (groups_in e.d.before)) v
              ⊎ Contains (variables_in (groups_in e.d.after)) v → ⊥
          by g f group out own (inl k) =
              let o = All-contains (Owned e.model) (variables_in (groups_in e.d.before)) v
              (each_owned e.model (groups_in e.d.before) (before_given e)) k in
              out (subst (Contains (given_here e))
              (one_owner (sound_before e) (old_here e) v o.0 g.at o.2
              (owner_here v g (e.separates.same g.at out ∙ item_of_group e.after g.at g f) group
              own)) o.1)
          by g f group out own (inr k) =
              let o = All-contains (Owned (only_groups e.after))
              (variables_in (groups_in e.d.after)) v
              (each_owned (only_groups e.after) (groups_in e.d.after)
              (groups_given (only_groups e.after) sound_alone.valid (given_here e)
              (groups_in e.d.after) e.separates.behind)) k in
              out (subst (Contains (given_here e))
              (one_owner sound_alone alone v o.0 g.at o.2
              (owner_here v g (item_of_group (only_groups e.after) g.at g f) group own)) o.1)

      -- so what is planned of the others stands for them
      pub own_stands :
          All (IsItemWithinLevels (choice_here e) kind_count) (filter keep (model_image e.after).groups)
          → (v : Address) → Contains (own_variables e.d) v
          → expression_in (worked_each (choice_here e) (worked (choice_here e) kind_count)
          (filter keep (model_image e.after).groups)).entries v
          ≡ expression_in entries v
      own_stands within v c =
          standing_is (setting_here e) e.sound.costly (choice_here e) e.sound.chosen e.sound.lawful
          keep v trees
          (groups_can_all (setting_here e) e.sound.costly (choice_here e) e.sound.chosen
          e.sound.lawful e.after e.valid
          (trees_of_bridged (setting_here e) e.sound.costly (choice_here e) e.sound.chosen
          e.sound.lawful (model_image (only_groups e.after)) alone.made).0) within (without v c)
