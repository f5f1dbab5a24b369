-- What stands for the variables that the found rows and the objective name is what stands for them by
-- the new bridging.
use Rattle.std.specs.Prelude.{◌≡◌, ◌⊎◌, Bool, true, false, cond, find as first_passing, List, [], All, Contains, Option, Some, refl}
use Rattle.std.proofs.Common.{inl, inr, sym, ap, subst, ◌∙◌}
use Rattle.std.proofs.lemmas.List.Elements.{All-contains, All-filter, All-weaker, Contains-append_right}
use Rattle.aff_core.specs.Address.{Address}
use Rattle.bridge_face.specs.Law.{Miss}
use Rattle.found_plan.specs.Read.{named_by, read_expression}
use Rattle.fresh_bridging.specs.Entries.{Entry, expression_in}
use Rattle.fresh_bridging.specs.FreshBridging.{FreshBridging, expression_of}
use Rattle.fresh_bridging.specs.ModelImage.{model_image}
use Rattle.item_core.specs.Item.{functions_of, is_group, variables_of}
use Rattle.item_core.specs.declared.image.Expression.TheVariants.{Kept}
use Rattle.item_core.specs.declared.item.Item.{Item}
use Rattle.leaf_update.specs.LeavesLaws.{among_contained}
use Rattle.local_laws.specs.ExpressedLaws.{expression_held}
use Rattle.local_laws.specs.FoundLaws.{in_groups, item_of_group}
use Rattle.local_laws.specs.Held.{expressed_at, is_there}
use Rattle.local_laws.specs.LookedLaws.{contains_or_not}
use Rattle.local_laws.specs.Stays.{AgreeOn, StaysAt}
use Rattle.local_laws.specs.StaysLaws.{groups_are, holds_alike}
use Rattle.map_laws.specs.EachLaws.{all_both}
use Rattle.model_bridging.specs.Found.{found_others}
use Rattle.push_laws.specs.AgreeLaws.{contains_one_of, found_standing, is_one_of, one_of_contained, others_name, own_variables as own_of}
use Rattle.push_laws.specs.AloneLaws.{groups_found}
use Rattle.push_laws.specs.Edits.{AreChanging, AttachedEdit, IsSearch, IsStandingFor, old_here, setting_here, sound_before, sound_behind}
use Rattle.push_laws.specs.HandedLaws.{is_found}
use Rattle.push_laws.specs.ListLaws.{kept_item}
use Rattle.push_laws.specs.PlannedLaws.{found_groups, found_others_are, others_stay, standing_is}
use Rattle.push_laws.specs.ReadLaws.{read_is}
use Rattle.push_laws.specs.GivenLaws.{has_here}
use Rattle.touched_items.specs.Differences.{groups_in, variables_in}
use Rattle.user_model.specs.declared.objective.Objective.{Objective}
use Rattle.user_model.specs.declared.row.Row.{Row}
use Rattle.push_laws.specs.NamingLaws.{NamesStanding, group_own, numbered_flat, others_stand, own_group}

module _ (e : AttachedEdit) (new : FreshBridging (setting_here e) e.after)
    (standing : List Entry) (changed addresses : List Address) (rows : List Row)
    (objective : Option Objective) (search : IsSearch e changed addresses rows objective)
    (changing : AreChanging e standing changed) where
  abbrev groups : List Item
  groups = (model_image e.after).groups

  -- a variable of a group that stays has the expression that it had
  group_stays : (v : Address) (g : Item) → first_passing (is_there g.at) groups ≡ Some g
      → is_group g.body ≡ true → Contains (variables_of g.body) v
      → StaysAt (old_here e) new g.at → expression_of (old_here e) v ≡ expression_of new v
  group_stays v g is group own stays =
      expression_held (sound_before e) (old_here e) v g.at g
      (in_groups e.model g.at g (stays.same ∙ item_of_group e.after g.at g is) group) own
      ∙ ap (λ o. expressed_at o v) (holds_alike (old_here e) new g.at stays)
      ∙ sym (expression_held (sound_behind e) new v g.at g is own)

  -- so has one of the model's that no group has that is given
  pub unchanged : (v : Address) → Contains (own_of e.after.groups) v
      → ¬ (Contains (own_of (groups_in e.d.after)) v)
      → expression_of (old_here e) v ≡ expression_of new v
  unchanged v c n =
      let g = own_group v e.after.groups c in
      let is = All-contains
      (λ (g : Item). (first_passing (is_there g.at) groups ≡ Some g) × (is_group g.body ≡ true))
      groups g.0
      (all_both (λ g. first_passing (is_there g.at) groups ≡ Some g) (λ g. is_group g.body ≡ true)
      groups (groups_found e.after e.valid) (groups_are e.after)) g.1 in
      group_stays v g.0 is.0 is.1 g.2
      (others_stay e new standing changed addresses rows objective search changing g.0.at
      (λ k. n (group_own v (groups_in e.d.after) g.0
      (subst (λ l. Contains l g.0) (found_groups e changed addresses rows objective search)
      (kept_item (is_found addresses) groups g.0 g.1 (among_contained g.0.at addresses k))) g.2)))

  module _ (further : List Entry) (stands : IsStandingFor e standing rows objective further) where
    further_is : (v : Address) → Contains (named_by rows objective) v
        → Contains (own_of e.after.groups) v → expression_in further v ≡ expression_of new v
    further_is v named owned =
        ap (λ f. f v) stands
        ∙ found_standing standing e.places (groups_in e.d.after) (named_by rows objective) v
        ∙ by (contains_or_not (own_of (groups_in e.d.after)) v)
      where
        not_one_of : ¬ (Contains (own_of (groups_in e.d.after)) v) → (b : Bool)
            → is_one_of (own_of (groups_in e.d.after)) v ≡ b → b ≡ false
        not_one_of n false t = refl
        not_one_of n true t = absurd (n (contains_one_of (own_of (groups_in e.d.after)) v t))

        by : Contains (own_of (groups_in e.d.after)) v
            ⊎ (¬ (Contains (own_of (groups_in e.d.after)) v))
            → cond (is_one_of (own_of (groups_in e.d.after)) v) (expression_in standing v)
            (cond (is_one_of (named_by rows objective) v) (read_expression e.places v) (Kept v))
            ≡ expression_of new v
        by (inl c) =
            ap (λ b. cond b (expression_in standing v)
            (cond (is_one_of (named_by rows objective) v) (read_expression e.places v) (Kept v)))
            (one_of_contained (own_of (groups_in e.d.after)) v c)
            ∙ standing_is e new standing changed addresses rows objective search changing v
            (Contains-append_right (variables_in (groups_in e.d.before))
            (variables_in (groups_in e.d.after)) v
            (subst (λ l. Contains l v) (numbered_flat (groups_in e.d.after)) c))
        by (inr n) =
            ap (λ b. cond b (expression_in standing v)
            (cond (is_one_of (named_by rows objective) v) (read_expression e.places v) (Kept v)))
            (not_one_of n (is_one_of (own_of (groups_in e.d.after)) v) refl)
            ∙ ap (λ b. cond b (read_expression e.places v) (Kept v))
            (one_of_contained (named_by rows objective) v named)
            ∙ read_is (sound_before e) (old_here e) e.places (has_here e).exprs
            (has_here e).marks v
            ∙ unchanged v owned n

    -- so what is put into what is found is what the new bridging puts in
    pub agree_here :
        All (λ i. AgreeOn further new.made.entries i.body) (found_others rows objective)
    agree_here =
        All-weaker
        (λ (i : Item). ((v : Address) → ¬ (Miss (functions_of i.body) v)
        → Contains (named_by rows objective) v) × NamesStanding e.after.groups i)
        (λ i. AgreeOn further new.made.entries i.body)
        (λ i h v m. further_is v (h.0 v m) (h.1 v m)) (found_others rows objective)
        (all_both
        (λ (i : Item). (v : Address) → ¬ (Miss (functions_of i.body) v)
        → Contains (named_by rows objective) v) (NamesStanding e.after.groups)
        (found_others rows objective) (others_name rows objective)
        (subst (All (NamesStanding e.after.groups))
        (found_others_are e changed addresses rows objective search)
        (All-filter (is_found addresses) (NamesStanding e.after.groups) (model_image e.after).others
        (others_stand e.after e.valid))))
