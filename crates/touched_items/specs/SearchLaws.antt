-- What is found by the items that differ and by what is noted at the variables that change is exactly
-- what is touched.
use Rattle.std.specs.Prelude.{◌≡◌, ◌≢◌, ◌⊎◌, ◌↔◌, ◌++◌, ℕ, zero, suc, Bool, true, false, not, List, [], ◌∷◌, All, Contains, Option, Some, None, filter, flat_map, length, map, refl}
use Rattle.std.specs.Option.{option_map}
use Rattle.std.proofs.Common.{arith, inl, inr, sym, ap, subst, ◌∙◌, true≢false}
use Rattle.std.proofs.lemmas.List.Elements.{All-contains, All-contains_itself, All-weaker, Contains-append_cases, Contains-append_left, Contains-append_right}
use Rattle.std.proofs.lemmas.Map.Keys.{IsDistinct-from_sorted}
use Rattle.std.proofs.lemmas.Option.{none-some, same_Some}
use Rattle.map_laws.specs.EachLaws.{contains_here, contains_later}
use Rattle.address_map.specs.AddressMap.{AddressMap}
use Rattle.address_map.specs.Noted.{noted_items}
use Rattle.aff_core.specs.Address.{Address, address_cmp, address_eq, address_eq-Decides, root_address}
use Rattle.aff_core.specs.declared.root.Root.TheVariants as root
use Rattle.fresh_bridging.specs.Entries.{Entry, expression_in}
use Rattle.fresh_bridging.specs.FreshBridging.{FreshBridging, expression_of}
use Rattle.fresh_bridging.specs.ModelImage.{group_item}
use Rattle.fresh_bridging.specs.TheRules.{Setting}
use Rattle.fresh_bridging.specs.Touched.{IsTouched, item_at}
use Rattle.item_core.specs.Item.{is_group}
use Rattle.item_core.specs.declared.image.Expression.{Expression}
use Rattle.item_core.specs.declared.item.Item.{Item}
use Rattle.leaf_model.specs.LeafModel.{IsCountOf}
use Rattle.local_laws.specs.FoundLaws.{in_groups}
use Rattle.local_laws.specs.GoneLaws.{all_kept, kept_in}
use Rattle.local_laws.specs.Held.{HasOwn}
use Rattle.local_laws.specs.ListedLaws.{found_nowhere}
use Rattle.local_laws.specs.LookedLaws.{contains_or_not}
use Rattle.local_laws.specs.MentionLaws.{IsBesideGroups, IsSearched, NotesMentions, touched_exactly}
use Rattle.local_laws.specs.Sound.{IsValidUnder}
use Rattle.local_laws.specs.Stays.{StaysAt}
use Rattle.local_laws.specs.UntouchedLaws.{found_exactly as count_found}
use Rattle.numbered_list.specs.Laws.{Contains-found}
use Rattle.numbered_list.specs.Numbered.{find}
use Rattle.user_model.specs.Edited.{group_number}
use Rattle.user_model.specs.Model.{ModelValue, variable_address}
use Rattle.user_model.specs.declared.group.Group.{Group}
use Rattle.touched_items.specs.DifferenceLaws.{HasDifferences, all_differ, group_there, others_stay}
use Rattle.touched_items.specs.Differences.{differing_addresses, groups_in, own_variables, variables_in}
use Rattle.touched_items.specs.ExpressionLaws.{HasExpressions, stays_where}
use Rattle.touched_items.specs.HeldExpressions.{stays_as}
use Rattle.touched_items.specs.Search.{AreInOrder}
use Rattle.touched_items.specs.Sides.{IsSeparated, differ, same}
use Rattle.touched_items.specs.declared.differing.Differing.{Differing}

-- ---- lists of lists

module _ {A B : Type 0} (f : A → List B) where
  in_some : (xs : List A) (v : B) → Contains (flat_map f xs) v
      → (x : A) × Contains xs x × Contains (f x) v
  in_some [] v c = absurd (omega (arith, c.1))
  in_some (x ∷ xs) v c = by (Contains-append_cases (f x) (flat_map f xs) v c) (in_some xs v)
    where
      by : Contains (f x) v ⊎ Contains (flat_map f xs) v
          → (Contains (flat_map f xs) v → (y : A) × Contains xs y × Contains (f y) v)
          → (y : A) × Contains (x ∷ xs) y × Contains (f y) v
      by (inl k) later = (x, contains_here x xs, k)
      by (inr k) later =
          let r = later k in
          (r.0, contains_later x r.0 xs r.1, r.2)

  in_all : (xs : List A) (x : A) (v : B) → Contains xs x → Contains (f x) v
      → Contains (flat_map f xs) v
  in_all [] x v c k = absurd (omega (arith, c.1))
  in_all (y ∷ xs) x v (zero, inside, is) k =
      Contains-append_left (f y) (flat_map f xs) v (subst (λ z. Contains (f z) v) (sym is) k)
  in_all (y ∷ xs) x v (suc i, inside, is) k =
      Contains-append_right (f y) (flat_map f xs) v
      (in_all xs x v (i, omega (arith, inside), is) k)

-- ---- groups

mapped_some : {A B : Type 0} (f : A → B) (o : Option A) (b : B) → option_map f o ≡ Some b
    → (a : A) × (o ≡ Some a) × (f a ≡ b)
mapped_some f None b e = absurd (none-some b e)
mapped_some f (Some a) b e = (a, refl, same_Some (f a) b e)

-- a group stands at the address of its number
group_root : (model : ModelValue) (at : Address) (item : Item) → item_at model at ≡ Some item
    → is_group item.body ≡ true → at ≡ root_address root.Group at.number
group_root model at item is group = by (address_eq (root_address root.Group at.number) at) refl
  where
    by : (b : Bool) → address_eq (root_address root.Group at.number) at ≡ b
        → at ≡ root_address root.Group at.number
    by true e = sym ((address_eq-Decides (root_address root.Group at.number) at).0 e)
    by false e =
        absurd (none-some item
        (sym (found_nowhere root.Group group_item group_number (λ g. refl) at e model.groups)
        ∙ in_groups model at item is group))

-- so it is one of the list where the list has it by its number
own_among : (model : ModelValue) (at : Address) (item : Item) (v : Address) (given : List Group)
    → item_at model at ≡ Some item → is_group item.body ≡ true → HasOwn v item
    → find group_number at.number given ≡ find group_number at.number model.groups
    → Contains (variables_in given) v
own_among model at item v given is group own alike =
    let whole : at ≡ root_address root.Group at.number = group_root model at item is group in
    let r = mapped_some group_item (find group_number at.number model.groups) item
    (sym (group_there model at.number) ∙ ap (item_at model) (sym whole) ∙ is) in
    in_all (λ (g : Group). map (λ v. variable_address v.number) g.vars) given r.0 v
    (Contains-found group_number at.number r.0 given (alike ∙ r.1))
    (subst (HasOwn v) (sym r.2) own)

-- ---- variables of groups that differ

module _ (model after : ModelValue) (d : Differing) (h : HasDifferences model after d) where
  differs_there : (at : Address) → Contains (differing_addresses d) at
      → item_at model at ≢ item_at after at
  differs_there at c =
      All-contains (λ at. item_at model at ≢ item_at after at) (differing_addresses d) at
      (all_differ model after d h) c

  -- a variable of no group that differs
  pub beside : (v : Address) → ¬ (Contains (own_variables d) v)
      → IsBesideGroups model after (differing_addresses d) v
  beside v out = record {
    before = λ at item c is group own. was at item c is group own (h.groups.each at.number);
    behind = λ at item c is group own. now at item c is group own (h.groups.each at.number);
  }
    where
      At : ℕ → Type 0
      At n =
          IsSeparated group_item (find group_number n model.groups)
          (find group_number n after.groups) (find group_number n (groups_in d.before))
          (find group_number n (groups_in d.after))

      same_there : (at : Address) → at ≡ root_address root.Group at.number
          → option_map group_item (find group_number at.number model.groups)
          ≡ option_map group_item (find group_number at.number after.groups)
          → item_at model at ≡ item_at after at
      same_there at whole e =
          ap (item_at model) whole
          ∙ group_there model at.number
          ∙ e
          ∙ sym (group_there after at.number)
          ∙ ap (item_at after) (sym whole)

      was : (at : Address) (item : Item) → Contains (differing_addresses d) at
          → item_at model at ≡ Some item → is_group item.body ≡ true → HasOwn v item
          → At at.number → ⊥
      was at item c is group own (same i j k) =
          differs_there at c (same_there at (group_root model at item is group) i)
      was at item c is group own (differ i j k) =
          out (Contains-append_left (variables_in (groups_in d.before))
          (variables_in (groups_in d.after)) v
          (own_among model at item v (groups_in d.before) is group own j))

      now : (at : Address) (item : Item) → Contains (differing_addresses d) at
          → item_at after at ≡ Some item → is_group item.body ≡ true → HasOwn v item
          → At at.number → ⊥
      now at item c is group own (same i j k) =
          differs_there at c (same_there at (group_root after at item is group) i)
      now at item c is group own (differ i j k) =
          out (Contains-append_right (variables_in (groups_in d.before))
          (variables_in (groups_in d.after)) v
          (own_among after at item v (groups_in d.after) is group own k))

-- ---- the variables for which something else stands

module _ {setting : Setting} {model : ModelValue} (sound : IsValidUnder setting model)
    (after : ModelValue) (old : FreshBridging setting model)
    (d : Differing) (h : HasDifferences model after d)
    (m : AddressMap) (has : HasExpressions m old)
    (standing : List Entry) (now : Address → Expression)
    (stands : (v : Address) → Contains (own_variables d) v → expression_in standing v ≡ now v) where
  abbrev changes : Address → Bool
  changes v = not (stays_as m v (expression_in standing v))

  abbrev pub changed_by : List Address
  changed_by = filter changes (own_variables d)

  is_not : (b : Bool) → not b ≡ true → b ≡ true → ⊥
  is_not true e f = true≢false (sym e)
  is_not false e f = true≢false (sym f)

  pub all_changed : All (λ v. expression_of old v ≢ now v) changed_by
  all_changed =
      All-weaker (λ v. Contains (own_variables d) v × (changes v ≡ true))
      (λ v. expression_of old v ≢ now v)
      (λ v k e. is_not (stays_as m v (expression_in standing v)) k.1
      ((stays_where sound m old has v (expression_in standing v)).1 (e ∙ sym (stands v k.0))))
      changed_by (all_kept changes (own_variables d))

  is_true : (b : Bool) → not b ≡ false → b ≡ true
  is_true true e = refl
  is_true false e = absurd (true≢false e)

  -- for each other what stood stands, or no group that differs has it
  pub all_compared : (v : Address) → ¬ (Contains changed_by v)
      → (expression_of old v ≡ now v) ⊎ IsBesideGroups model after (differing_addresses d) v
  all_compared v out = by (contains_or_not (own_variables d) v)
    where
      tested : Contains (own_variables d) v → (b : Bool) → changes v ≡ b
          → (expression_of old v ≡ now v) ⊎ IsBesideGroups model after (differing_addresses d) v
      tested c true e = absurd (out (kept_in changes (own_variables d) v c e))
      tested c false e =
          inl ((stays_where sound m old has v (expression_in standing v)).0
          (is_true (stays_as m v (expression_in standing v)) e) ∙ stands v c)

      by : Contains (own_variables d) v ⊎ (¬ (Contains (own_variables d) v))
          → (expression_of old v ≡ now v) ⊎ IsBesideGroups model after (differing_addresses d) v
      by (inl c) = tested c (changes v) refl
      by (inr n) = inr (beside model after d h v n)

-- ---- what is found at them

-- as laws of touch ask for it
pub in_order_noted : (differing changed : List Address) (noted : Address → List Address)
    (addresses : List Address)
    → AreInOrder (differing ++ flat_map noted changed) addresses → (at : Address)
    → Contains addresses at
    ↔ (Contains differing at ⊎ ((v : Address) × Contains changed v × Contains (noted v) at))
in_order_noted differing changed noted addresses order at = (
  λ c. to (Contains-append_cases differing (flat_map noted changed) at ((order.same at).0 c)),
  λ k. (order.same at).1 (from k),
)
  where
    Noted : Type 0
    Noted = (v : Address) × Contains changed v × Contains (noted v) at

    to : Contains differing at ⊎ Contains (flat_map noted changed) at
        → Contains differing at ⊎ Noted
    to (inl c) = inl c
    to (inr c) = inr (in_some noted changed at c)

    from : Contains differing at ⊎ Noted → Contains (differing ++ flat_map noted changed) at
    from (inl c) = Contains-append_left differing (flat_map noted changed) at c
    from (inr k) =
        Contains-append_right differing (flat_map noted changed) at
        (in_all noted changed k.0 at k.1 k.2)

module _ {setting : Setting} {model after : ModelValue} (sound : IsValidUnder setting model)
    (sound_after : IsValidUnder setting after)
    (old : FreshBridging setting model) (new : FreshBridging setting after)
    (d : Differing) (h : HasDifferences model after d)
    (m : AddressMap) (has : HasExpressions m old)
    (standing : List Entry)
    (stands : (v : Address) → Contains (own_variables d) v
    → expression_in standing v ≡ expression_of new v)
    (index : NotesMentions model (noted_items m.noted)) where
  abbrev changed : List Address
  changed = changed_by sound after old d h m has standing (expression_of new) stands

  abbrev alike : (at : Address) → ¬ (Contains (differing_addresses d) at)
      → item_at model at ≡ item_at after at
  alike at out = others_stay model after d h at out

  module _ (addresses : List Address)
      (order : AreInOrder (differing_addresses d ++ flat_map (noted_items m.noted) changed)
      addresses) where
    -- the search is one as the laws of touch ask for it
    pub searched : IsSearched sound sound_after old new (differing_addresses d) alike
        (noted_items m.noted) changed addresses
    searched = record {
      differ = all_differ model after d h;
      index = index;
      changed = all_changed sound after old d h m has standing (expression_of new) stands;
      compared = all_compared sound after old d h m has standing (expression_of new) stands;
      found_are =
          in_order_noted (differing_addresses d) changed (noted_items m.noted) addresses order;
    }

    -- what is found is exactly what is touched, and what isn't stays
    pub found_exactly : (at : Address)
        → (Contains addresses at → IsTouched old new at)
        × (¬ (Contains addresses at) → StaysAt old new at)
    found_exactly at =
        touched_exactly sound sound_after old new (differing_addresses d) alike
        (noted_items m.noted) changed addresses searched at

    -- so there are as many as are found
    pub found_count : IsCountOf (IsTouched old new) (length addresses)
    found_count =
        count_found sound sound_after old new addresses
        (IsDistinct-from_sorted address_cmp addresses order.rising)
        (All-weaker (Contains addresses) (IsTouched old new) (λ at c. (found_exactly at).0 c)
        addresses (All-contains_itself addresses))
        (λ at n. (found_exactly at).1 n)
