-- What a map of addresses has after an edit is what the new bridging has of the user's variables: their
-- functions, and which of them are kept.
use Rattle.std.specs.FinMap as finite
use Rattle.std.specs.Prelude.{◌≡◌, ◌⊎◌, ◌&&◌, ◌||◌, Bool, true, false, cond, find as first_passing, not, List, [], ◌∷◌, All, Contains, Option, Some, None, filter, is_some, map, refl}
use Rattle.std.proofs.Common.{inl, inr, sym, ap, ap₂, subst, ◌∙◌, true≢false}
use Rattle.std.proofs.lemmas.List.Elements.{All-contains, All-contains_itself, All-filter, Contains-append_left, Contains-append_right}
use Rattle.address_map.specs.AddressMap.{AddressMap}
use Rattle.aff_core.specs.Address.{Address, address_cmp, address_eq, address_eq-Decides, address_total, exact_addresses}
use Rattle.aff_core.specs.Function.{Function}
use Rattle.bridge_face.specs.Law.{expressed}
use Rattle.push_laws.specs.StayingLaws.{without}
use Rattle.push_laws.specs.Edits.{AreChanging, AttachedEdit, IsMappedAnew, IsSearch, old_here, setting_here}
use Rattle.push_laws.specs.FurtherLaws.{unchanged}
use Rattle.push_laws.specs.GivenLaws.{groups_had, unfound}
use Rattle.push_laws.specs.PlannedLaws.{found_groups, new_choice, others_stay, standing_is}
use Rattle.expansion.specs.Bridged.{EachBridged}
use Rattle.found_plan.specs.Read.{is_marked}
use Rattle.fresh_bridging.specs.Entries.{Entry, expression_in, function_in, is_kept}
use Rattle.fresh_bridging.specs.FreshBridging.{FreshBridging, expression_of}
use Rattle.fresh_bridging.specs.ModelImage.{group_item, model_image}
use Rattle.fresh_bridging.specs.TheRules.{Setting, rules_by}
use Rattle.item_core.specs.Item.{variables_of, is_group}
use Rattle.item_core.specs.declared.item.Item.{Item}
use Rattle.leaf_update.specs.LeavesLaws.{contains_among, among_contained}
use Rattle.leaf_update.specs.Others.{among}
use Rattle.local_laws.specs.FoundLaws.{in_groups, item_of_group}
use Rattle.local_laws.specs.GoneLaws.{all_kept}
use Rattle.local_laws.specs.Held.{is_there}
use Rattle.local_laws.specs.LookedLaws.{contains_or_not}
use Rattle.local_laws.specs.StaysLaws.{groups_are}
use Rattle.local_laws.specs.Views.{look}
use Rattle.map_laws.specs.EachLaws.{all_both}
use Rattle.map_laws.specs.MadeLaws.{get_made}
use Rattle.model_bridging.specs.Expressions.{expressions_by}
use Rattle.model_bridging.specs.Planned.{kept_variables, variables_of_the_model}
use Rattle.push_laws.specs.AgreeLaws.{own_variables as own_of}
use Rattle.push_laws.specs.AloneLaws.{groups_found}
use Rattle.push_laws.specs.NamingLaws.{group_own, numbered_flat, own_group}
use Rattle.push_laws.specs.HandedLaws.{is_found}
use Rattle.push_laws.specs.ListLaws.{kept_item}
use Rattle.push_laws.specs.MarkedLaws.{marked_where}
use Rattle.push_laws.specs.SortedLaws.{passing_contained}
use Rattle.touched_items.specs.Differences.{groups_in, variables_in}
use Rattle.user_model.specs.Model.{ModelValue}
use Rattle.user_model.specs.declared.group.Group.{Group}
use Rattle.user_model.specs.declared.objective.Objective.{Objective}
use Rattle.user_model.specs.declared.row.Row.{Row}

-- ---- maps

pub looked_each : {X : Type 0} (f : Address → X) (vs : List Address) (v : Address)
    → look v (map (λ u. (u, f u)) vs) ≡ cond (among vs v) (Some (f v)) None
looked_each f [] v = refl
looked_each f (u ∷ us) v = by (address_eq v u) refl (looked_each f us v)
  where
    by : (b : Bool) → address_eq v u ≡ b
        → look v (map (λ u. (u, f u)) us) ≡ cond (among us v) (Some (f v)) None
        → cond b (Some (f u)) (look v (map (λ u. (u, f u)) us))
        ≡ cond (b || among us v) (Some (f v)) None
    by true e rest = ap (λ w. Some (f w)) (sym ((address_eq-Decides v u).0 e))
    by false e rest = rest

pub unit_same : (o p : Option (Unit {0})) → is_some o ≡ is_some p → o ≡ p
unit_same None None e = refl
unit_same None (Some x) e = absurd (true≢false (sym e))
unit_same (Some x) None e = absurd (true≢false e)
unit_same (Some x) (Some y) e = refl

pub not_among : (vs : List Address) (v : Address) → ¬ (Contains vs v) → among vs v ≡ false
not_among vs v n = by (among vs v) refl
  where
    by : (b : Bool) → among vs v ≡ b → b ≡ false
    by false t = refl
    by true t = absurd (n (contains_among v vs t))

-- none is marked that isn't one of them
pub unmarked : (f : Address → Bool) (vs : List Address) (v : Address) → ¬ (Contains vs v)
    → is_some (finite.get (finite.from_entries {R = address_cmp}
    (map {B = Address × Unit {0}} (λ u. (u, tt)) (filter f vs))) v) ≡ false
unmarked f vs v n =
    ap is_some (get_made address_total (map {B = Address × Unit {0}} (λ u. (u, tt)) (filter f vs)) v
    ∙ looked_each {X = Unit {0}} (λ u. tt) (filter f vs) v)
    ∙ ap (λ b. is_some (cond b (Some tt) None))
    (not_among (filter f vs) v
    (λ c. n (All-contains (λ u. Contains vs u × (f u ≡ true)) (filter f vs) v (all_kept f vs) c).0))

-- ---- variables of groups

-- a kept group's variable is one of these
pub among_kept_groups : (keep : Item → Bool) (all gs : List Group) (v : Address) (g : Item)
    → filter keep (map group_item all) ≡ map group_item gs → Contains (map group_item all) g
    → keep g ≡ true → Contains (variables_of g.body) v → Contains (own_of gs) v
among_kept_groups keep all gs v g same c t own =
    group_own v gs g
    (subst (λ l. Contains l g) same (kept_item keep (map group_item all) g c t)) own

pub all_contained : {X : Type 0} (p : X → Bool) (xs : List X) → All (Contains xs) (filter p xs)
all_contained p xs = All-filter p (Contains xs) xs (All-contains_itself xs)

module _ (e : AttachedEdit) (new : FreshBridging (setting_here e) e.after)
    (standing : List Entry) (changed addresses : List Address) (rows : List Row)
    (objective : Option Objective) (search : IsSearch e changed addresses rows objective)
    (changing : AreChanging e standing changed) where
  abbrev was_own : List Address
  was_own = variables_in (groups_in e.d.before)

  abbrev is_own : List Address
  is_own = variables_in (groups_in e.d.after)

  abbrev vars_before : List Address
  vars_before = variables_of_the_model e.model

  abbrev vars_after : List Address
  vars_after = variables_of_the_model e.after

  -- what a given group has stands
  own_there : (v : Address) → Contains is_own v → Contains vars_after v
  own_there v c =
      let g = own_group v (groups_in e.d.after)
      (subst (λ l. Contains l v) (sym (numbered_flat (groups_in e.d.after))) c) in
      group_own v e.after.groups g.0
      (All-contains (Contains (model_image e.after).groups)
      (filter (is_found addresses) (model_image e.after).groups) g.0
      (all_contained (is_found addresses) (model_image e.after).groups)
      (subst (λ l. Contains l g.0)
      (sym (found_groups e changed addresses rows objective search)) g.1))
      g.2

  -- what a given group had, and none that is given has, is gone
  own_gone : (v : Address) → Contains was_own v → ¬ (Contains is_own v)
      → ¬ (Contains vars_after v)
  own_gone v c n k =
      let g = own_group v e.after.groups k in
      by g.0 g.1 g.2 (is_found addresses g.0) refl
    where
      by : (g : Item) → Contains (model_image e.after).groups g → Contains (variables_of g.body) v
          → (b : Bool) → is_found addresses g ≡ b → ⊥
      by g inside own true t =
          n (subst (λ l. Contains l v) (numbered_flat (groups_in e.d.after))
          (among_kept_groups (is_found addresses) e.after.groups (groups_in e.d.after) v g
          (found_groups e changed addresses rows objective search) inside t own))
      by g inside own false t =
          All-contains
          (λ (g : Item). is_found addresses g ≡ false → ¬ (Contains (variables_of g.body) v))
          (model_image e.after).groups g
          (without e new.made.entries
          (subst (λ c. EachBridged (rules_by c) (model_image e.after).groups new.made.entries)
          (new_choice e changed addresses rows objective search new) new.made.groups)
          (is_found addresses)
          (λ i out. unfound e changed addresses rows objective search i out) v
          (Contains-append_left was_own is_own v c))
          inside t own

  -- of no given group: it stands on both sides or on none
  stood_there : (v : Address) → ¬ (Contains is_own v) → Contains vars_after v
      → Contains vars_before v
  stood_there v n k =
      let g = own_group v e.after.groups k in
      by g.0 g.1 g.2
      (All-contains (λ (g : Item). (first_passing (is_there g.at) (model_image e.after).groups
      ≡ Some g) × (is_group g.body ≡ true)) (model_image e.after).groups g.0
      (all_both (λ g. first_passing (is_there g.at) (model_image e.after).groups ≡ Some g)
      (λ g. is_group g.body ≡ true) (model_image e.after).groups (groups_found e.after e.valid)
      (groups_are e.after)) g.1)
    where
      by : (g : Item) → Contains (model_image e.after).groups g → Contains (variables_of g.body) v
          → (first_passing (is_there g.at) (model_image e.after).groups ≡ Some g)
          × (is_group g.body ≡ true)
          → Contains vars_before v
      by g inside own is =
          let stays = others_stay e new standing changed addresses rows objective search changing
          g.at
          (λ c. n (subst (λ l. Contains l v) (numbered_flat (groups_in e.d.after))
          (among_kept_groups (is_found addresses) e.after.groups (groups_in e.d.after) v g
          (found_groups e changed addresses rows objective search) inside
          (among_contained g.at addresses c) own))) in
          group_own v e.model.groups g
          (passing_contained (is_there g.at) (model_image e.model).groups g
          (in_groups e.model g.at g (stays.same ∙ item_of_group e.after g.at g is.0) is.1)) own

  stands_there : (v : Address) → ¬ (Contains was_own v) → Contains vars_before v
      → Contains vars_after v
  stands_there v n k =
      let g = own_group v e.model.groups k in
      by g.0 g.1 g.2
      (All-contains (λ (g : Item). (first_passing (is_there g.at) (model_image e.model).groups
      ≡ Some g) × (is_group g.body ≡ true)) (model_image e.model).groups g.0
      (all_both (λ g. first_passing (is_there g.at) (model_image e.model).groups ≡ Some g)
      (λ g. is_group g.body ≡ true) (model_image e.model).groups
      (groups_found e.model e.held.valid) (groups_are e.model)) g.1)
    where
      by : (g : Item) → Contains (model_image e.model).groups g → Contains (variables_of g.body) v
          → (first_passing (is_there g.at) (model_image e.model).groups ≡ Some g)
          × (is_group g.body ≡ true)
          → Contains vars_after v
      by g inside own is =
          let stays = others_stay e new standing changed addresses rows objective search changing
          g.at
          (λ c. n (subst (λ l. Contains l v) (numbered_flat (groups_in e.d.before))
          (among_kept_groups (is_found addresses) e.model.groups (groups_in e.d.before) v g
          (groups_had e changed addresses rows objective search) inside
          (among_contained g.at addresses c) own))) in
          group_own v e.after.groups g
          (passing_contained (is_there g.at) (model_image e.after).groups g
          (in_groups e.after g.at g (sym stays.same ∙ item_of_group e.model g.at g is.0) is.1)) own

  same_expression : (v : Address) → Contains vars_after v → ¬ (Contains is_own v)
      → expression_of (old_here e) v ≡ expression_of new v
  same_expression v c n =
      unchanged e new standing changed addresses rows objective search changing v c
      (λ k. n (subst (λ l. Contains l v) (numbered_flat (groups_in e.d.after)) k))

  -- ---- the map

  module _ (places : AddressMap) (mapped : IsMappedAnew e standing places) where
    abbrev function_of : {setting : Setting} {model : ModelValue} → FreshBridging setting model → Address
        → Function
    function_of bridging u = expressed (expression_of bridging u)

    had_function : (v : Address) → finite.get e.places.exprs v
        ≡ cond (among vars_before v) (Some (function_of (old_here e) v)) None
    had_function v =
        ap (λ m. finite.get m v) e.held.exprs
        ∙ get_made address_total (map (λ u. (u, function_of (old_here e) u)) vars_before) v
        ∙ looked_each (function_of (old_here e)) vars_before v

    -- the same function on both sides, or none
    kept_function : (v : Address) → ¬ (Contains was_own v) → ¬ (Contains is_own v)
        → finite.get e.places.exprs v
        ≡ cond (among vars_after v) (Some (function_of new v)) None
    kept_function v n m = had_function v ∙ by (contains_or_not vars_after v)
      where
        by : Contains vars_after v ⊎ (¬ (Contains vars_after v))
            → cond (among vars_before v) (Some (function_of (old_here e) v)) None
            ≡ cond (among vars_after v) (Some (function_of new v)) None
        by (inl c) =
            ap₂ (λ b f. cond b (Some f) None) (among_contained v vars_before (stood_there v m c))
            (ap expressed (same_expression v c m))
            ∙ sym (ap (λ b. cond b (Some (function_of new v)) None)
            (among_contained v vars_after c))
        by (inr k) =
            ap (λ b. cond b (Some (function_of (old_here e) v)) None)
            (not_among vars_before v (λ c. k (stands_there v n c)))
            ∙ sym (ap (λ b. cond b (Some (function_of new v)) None) (not_among vars_after v k))

    pub exprs_are : places.exprs ≡ expressions_by new
    exprs_are = finite.same_map address_total exact_addresses places.exprs (expressions_by new) each
      where
        by : (v : Address) → Contains is_own v ⊎ (¬ (Contains is_own v))
            → Contains was_own v ⊎ (¬ (Contains was_own v))
            → cond (among is_own v) (Some (function_in standing v))
            (cond (among was_own v) None (finite.get e.places.exprs v))
            ≡ cond (among vars_after v) (Some (function_of new v)) None
        by v (inl c) k =
            ap₂ (λ b f. cond b (Some f) (cond (among was_own v) None (finite.get e.places.exprs v)))
            (among_contained v is_own c)
            (ap expressed (standing_is e new standing changed addresses rows objective search
            changing v (Contains-append_right was_own is_own v c)))
            ∙ sym (ap (λ b. cond b (Some (function_of new v)) None)
            (among_contained v vars_after (own_there v c)))
        by v (inr n) (inl c) =
            ap₂ (λ b d. cond b (Some (function_in standing v))
            (cond d None (finite.get e.places.exprs v))) (not_among is_own v n)
            (among_contained v was_own c)
            ∙ sym (ap (λ b. cond b (Some (function_of new v)) None)
            (not_among vars_after v (own_gone v c n)))
        by v (inr n) (inr m) =
            ap₂ (λ b d. cond b (Some (function_in standing v))
            (cond d None (finite.get e.places.exprs v))) (not_among is_own v n)
            (not_among was_own v m)
            ∙ kept_function v m n

        each : (v : Address) → finite.get places.exprs v ≡ finite.get (expressions_by new) v
        each v =
            mapped.exprs v
            ∙ by v (contains_or_not is_own v) (contains_or_not was_own v)
            ∙ sym (get_made address_total (map (λ u. (u, function_of new u)) vars_after) v
            ∙ looked_each (function_of new) vars_after v)

    -- ---- marks

    abbrev keeps_it : {setting : Setting} {model : ModelValue} → FreshBridging setting model → Address
        → Bool
    keeps_it bridging u = is_kept (expression_of bridging u)

    abbrev marks_after : Address → Bool
    marks_after v =
        is_some (finite.get (finite.from_entries {R = address_cmp}
        (map {B = Address × Unit {0}} (λ u. (u, tt)) (kept_variables new))) v)

    kept_mark : (v : Address) → ¬ (Contains was_own v) → ¬ (Contains is_own v)
        → is_marked e.places v ≡ marks_after v
    kept_mark v n m =
        ap (λ k. is_some (finite.get k v)) e.held.marks ∙ by (contains_or_not vars_after v)
      where
        by : Contains vars_after v ⊎ (¬ (Contains vars_after v))
            → is_some (finite.get (finite.from_entries {R = address_cmp}
            (map {B = Address × Unit {0}} (λ u. (u, tt)) (kept_variables (old_here e)))) v)
            ≡ marks_after v
        by (inl c) =
            marked_where (keeps_it (old_here e)) vars_before v (stood_there v m c)
            ∙ ap is_kept (same_expression v c m)
            ∙ sym (marked_where (keeps_it new) vars_after v c)
        by (inr k) =
            unmarked (keeps_it (old_here e)) vars_before v (λ c. k (stands_there v n c))
            ∙ sym (unmarked (keeps_it new) vars_after v k)

    pub marks_are : places.kept ≡ finite.from_entries (map {B = Address × Unit {0}} (λ u. (u, tt)) (kept_variables new))
    marks_are =
        finite.same_map address_total exact_addresses places.kept
        (finite.from_entries (map {B = Address × Unit {0}} (λ u. (u, tt)) (kept_variables new)))
        (λ v. unit_same (finite.get places.kept v)
        (finite.get (finite.from_entries (map {B = Address × Unit {0}} (λ u. (u, tt)) (kept_variables new))) v)
        (mapped.marks v ∙ by v (contains_or_not is_own v) (contains_or_not was_own v)))
      where
        by : (v : Address) → Contains is_own v ⊎ (¬ (Contains is_own v))
            → Contains was_own v ⊎ (¬ (Contains was_own v))
            → cond (among is_own v) (is_kept (expression_in standing v))
            (not (among was_own v) && is_marked e.places v)
            ≡ marks_after v
        by v (inl c) k =
            ap₂ (λ b x. cond b (is_kept x) (not (among was_own v) && is_marked e.places v))
            (among_contained v is_own c)
            (standing_is e new standing changed addresses rows objective search changing v
            (Contains-append_right was_own is_own v c))
            ∙ sym (marked_where (keeps_it new) vars_after v (own_there v c))
        by v (inr n) (inl c) =
            ap₂ (λ b d. cond b (is_kept (expression_in standing v))
            (not d && is_marked e.places v)) (not_among is_own v n) (among_contained v was_own c)
            ∙ sym (unmarked (keeps_it new) vars_after v (own_gone v c n))
        by v (inr n) (inr m) =
            ap₂ (λ b d. cond b (is_kept (expression_in standing v))
            (not d && is_marked e.places v)) (not_among is_own v n) (not_among was_own v m)
            ∙ kept_mark v m n
