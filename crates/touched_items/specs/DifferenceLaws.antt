-- At the addresses of the items that differ, and at no other, the models have different items.
use Rattle.std.specs.Prelude.{◌≡◌, ◌≢◌, ◌⊎◌, ◌++◌, ℕ, Bool, true, false, cond, List, [], ◌∷◌, All, Contains, Option, Some, None, flat_map, map, unwrap_or, refl}
use Rattle.std.specs.Borrow.{Bor}
use Rattle.std.specs.Option.{option_copied, option_map, option_map_or, option_or, option_to_list}
use Rattle.std.proofs.Common.{inl, inr, sym, ap, ap₂, subst, ◌∙◌}
use Rattle.std.proofs.lemmas.List.Elements.{All-append, All-cons, All-contains_itself, All-map, All-nil, All-weaker, Contains-append_left, Contains-append_right}
use Rattle.std.proofs.lemmas.Option.{none-some, same_Some}
use Rattle.std.specs.Prelude.{find as first_passing}
use Rattle.map_laws.specs.EachLaws.{contains_here}
use Rattle.aff_core.specs.Address.{Address, address_eq, address_eq-Decides, root_address}
use Rattle.aff_core.specs.declared.root.Root.{Root}
use Rattle.aff_core.specs.declared.root.Root.TheVariants as root
use Rattle.fresh_bridging.specs.ModelImage.{group_item, objective_item, objective_items, row_item}
use Rattle.fresh_bridging.specs.Touched.{item_at}
use Rattle.item_core.specs.declared.item.Body.TheVariants.{PlainObj, AffineObj}
use Rattle.item_core.specs.declared.item.Item.{Item}
use Rattle.local_laws.specs.Held.{is_there}
use Rattle.local_laws.specs.ListedLaws.{by_parts, found_by_number, found_nowhere, three}
use Rattle.local_laws.specs.MentionLaws.{mapped_contains}
use Rattle.numbered_list.specs.Laws.{Contains-found, number_of_found}
use Rattle.numbered_list.specs.Numbered.{find}
use Rattle.user_model.specs.Edited.{group_number, row_number}
use Rattle.user_model.specs.Model.{ModelValue}
use Rattle.user_model.specs.declared.objective.Objective.{Objective}
use Rattle.user_model.specs.declared.objective.Objective.TheVariants as objective
use Rattle.local_laws.specs.Unlisted.{LeadBackTo}
use Rattle.numbered_list.specs.Changes.{AreChanges}
use Rattle.user_model.specs.declared.undo.Undo.{Undo}
use Rattle.touched_items.specs.FirstChanges.{AreFirst, first_objective, stood_at}
use Rattle.touched_items.specs.UndoLaws.{listed_changes, objective_stood, stood_is}
use Rattle.touched_items.specs.declared.listed.ListedChanges.{ListedChanges}
use Rattle.touched_items.specs.Differences.{AreDiffering, addresses_in, differing_addresses, group_addresses, groups_in, listed_groups, listed_rows, row_addresses, rows_in}
use Rattle.touched_items.specs.SideLaws.{found_itself}
use Rattle.touched_items.specs.Sides.{AreSides, IsSeparated, differ, same}
use Rattle.touched_items.specs.declared.differing.ModelItems.{ModelItems}
use Rattle.touched_items.specs.declared.differing.Differing.{Differing}
use Rattle.user_model.specs.declared.group.Group.{Group}
use Rattle.user_model.specs.declared.row.Row.{Row}

-- ---- items with numbers

-- items of a list beside one address of another root
other_root : (R : Root) (at : Address) → ¬ (at.root ≡ R)
    → address_eq (root_address R at.number) at ≡ false
other_root R at other = by (address_eq (root_address R at.number) at) refl
  where
    by : (b : Bool) → address_eq (root_address R at.number) at ≡ b → b ≡ false
    by false e = refl
    by true e =
        absurd (other (ap (λ (a : Address). a.root)
        (sym ((address_eq-Decides (root_address R at.number) at).0 e))))

module _ {X : Type 0} (R : Root) (item_of : X → Item) (number_of : X → ℕ)
    (each : (x : X) → (item_of x).at ≡ root_address R (number_of x)) where
  abbrev found : Address → List X → Option Item
  found at xs = first_passing (is_there at) (map item_of xs)

  found_there : (n : ℕ) (xs : List X)
      → found (root_address R n) xs ≡ option_map item_of (find number_of n xs)
  found_there n xs =
      found_by_number R item_of number_of each (root_address R n)
      ((address_eq-Decides (root_address R n) (root_address R n)).1 refl) xs

  not_there : (at : Address) → ¬ (at.root ≡ R) → (xs : List X) → found at xs ≡ None
  not_there at other xs = found_nowhere R item_of number_of each at (other_root R at other) xs

  module _ (was is before after : List X)
      (sides : AreSides number_of item_of (λ n. find number_of n was) (λ n. find number_of n is)
      before after) where
    abbrev Differ : ℕ → Type 0
    Differ n = option_map item_of (find number_of n was) ≢ option_map item_of (find number_of n is)

    was_differs : (x : X) → Contains before x → Differ (number_of x)
    was_differs x c =
        by (sides.each (number_of x)) (found_itself number_of before x sides.rising_before c)
      where
        by : IsSeparated item_of (find number_of (number_of x) was)
            (find number_of (number_of x) is) (find number_of (number_of x) before)
            (find number_of (number_of x) after)
            → find number_of (number_of x) before ≡ Some x → Differ (number_of x)
        by (same i j k) e = absurd (none-some x (sym j ∙ e))
        by (differ i j k) e = i

    is_differs : (x : X) → Contains after x → Differ (number_of x)
    is_differs x c =
        by (sides.each (number_of x)) (found_itself number_of after x sides.rising_after c)
      where
        by : IsSeparated item_of (find number_of (number_of x) was)
            (find number_of (number_of x) is) (find number_of (number_of x) before)
            (find number_of (number_of x) after)
            → find number_of (number_of x) after ≡ Some x → Differ (number_of x)
        by (same i j k) e = absurd (none-some x (sym k ∙ e))
        by (differ i j k) e = i

    abbrev ats : List X → List Address
    ats xs = map (λ x. root_address R (number_of x)) xs

    -- at an address of neither side the same is found
    stays_found : (at : Address) → ¬ (Contains (ats before) at) → ¬ (Contains (ats after) at)
        → found at was ≡ found at is
    stays_found at out away = by (address_eq (root_address R at.number) at) refl
      where
        none_in : (xs : List X) → at ≡ root_address R at.number → ¬ (Contains (ats xs) at)
            → find number_of at.number xs ≡ None
        none_in xs whole off = step (find number_of at.number xs) refl
          where
            step : (o : Option X) → find number_of at.number xs ≡ o → o ≡ None
            step None e = refl
            step (Some x) e =
                absurd (off (subst (Contains (ats xs))
                (ap (root_address R) (number_of_found number_of at.number x xs e) ∙ sym whole)
                (mapped_contains (λ x. root_address R (number_of x)) xs x
                (Contains-found number_of at.number x xs e))))

        agree : IsSeparated item_of (find number_of at.number was) (find number_of at.number is)
            (find number_of at.number before) (find number_of at.number after)
            → find number_of at.number before ≡ None → find number_of at.number after ≡ None
            → option_map item_of (find number_of at.number was)
            ≡ option_map item_of (find number_of at.number is)
        agree (same i j k) e f = i
        agree (differ i j k) e f = ap (option_map item_of) (sym j ∙ e ∙ sym f ∙ k)

        by : (b : Bool) → address_eq (root_address R at.number) at ≡ b → found at was ≡ found at is
        by false e =
            found_nowhere R item_of number_of each at e was
            ∙ sym (found_nowhere R item_of number_of each at e is)
        by true e =
            let whole : at ≡ root_address R at.number =
            sym ((address_eq-Decides (root_address R at.number) at).0 e) in
            found_by_number R item_of number_of each at e was
            ∙ agree (sides.each at.number) (none_in before whole out) (none_in after whole away)
            ∙ sym (found_by_number R item_of number_of each at e is)

-- ---- the objective

abbrev pub objective_address : Address
objective_address = root_address root.Objective 0

abbrev pub first_item : Objective → Option Item
first_item objective.Feasibility = None
first_item (objective.Plain sense var) = Some (objective_item (PlainObj sense var))
first_item (objective.Affine sense func) = Some (objective_item (AffineObj sense func))

items_first : (o : Objective) → objective_items o ≡ option_to_list (first_item o)
items_first objective.Feasibility = refl
items_first (objective.Plain sense var) = refl
items_first (objective.Affine sense func) = refl

pub at_objective : (at : Address) (o : Objective)
    → first_passing (is_there at) (objective_items o)
    ≡ cond (address_eq objective_address at) (first_item o) None
at_objective at objective.Feasibility = by (address_eq objective_address at)
  where
    by : (b : Bool)
        → first_item objective.Feasibility ≡ cond b (first_item objective.Feasibility) None
    by true = refl
    by false = refl
at_objective at (objective.Plain sense var) = refl
at_objective at (objective.Affine sense func) = refl

objective_there : (o : Objective)
    → first_passing (is_there objective_address) (objective_items o) ≡ first_item o
objective_there o =
    at_objective objective_address o
    ∙ ap (λ b. cond b (first_item o) None)
    ((address_eq-Decides objective_address objective_address).1 refl)

objective_elsewhere : (at : Address) → ¬ (at.root ≡ root.Objective) → (o : Objective)
    → first_passing (is_there at) (objective_items o) ≡ None
objective_elsewhere at other o = at_objective at o ∙ by (address_eq objective_address at) refl
  where
    by : (b : Bool) → address_eq objective_address at ≡ b → cond b (first_item o) None ≡ None
    by false e = refl
    by true e =
        absurd (other (ap (λ (a : Address). a.root)
        (sym ((address_eq-Decides objective_address at).0 e))))

-- ---- items of a model

or_none : {A : Type 0} (o : Option A) → option_or o None ≡ o
or_none None = refl
or_none (Some a) = refl

pub group_there : (model : ModelValue) (n : ℕ)
    → item_at model (root_address root.Group n)
    ≡ option_map group_item (find group_number n model.groups)
group_there model n =
    by_parts model (root_address root.Group n)
    ∙ ap₂ option_or
    (found_there root.Group group_item group_number (λ g. refl) n model.groups)
    (ap₂ option_or
    (not_there root.Row row_item row_number (λ r. refl) (root_address root.Group n) (λ e. cc)
    model.rows)
    (objective_elsewhere (root_address root.Group n) (λ e. cc) model.objective))
    ∙ or_none (option_map group_item (find group_number n model.groups))

pub row_there : (model : ModelValue) (n : ℕ)
    → item_at model (root_address root.Row n) ≡ option_map row_item (find row_number n model.rows)
row_there model n =
    by_parts model (root_address root.Row n)
    ∙ ap₂ option_or
    (not_there root.Group group_item group_number (λ g. refl) (root_address root.Row n) (λ e. cc)
    model.groups)
    (ap₂ option_or
    (found_there root.Row row_item row_number (λ r. refl) n model.rows)
    (objective_elsewhere (root_address root.Row n) (λ e. cc) model.objective))
    ∙ or_none (option_map row_item (find row_number n model.rows))

pub objective_stands : (model : ModelValue) → item_at model objective_address ≡ first_item model.objective
objective_stands model =
    by_parts model objective_address
    ∙ ap₂ option_or
    (not_there root.Group group_item group_number (λ g. refl) objective_address (λ e. cc)
    model.groups)
    (ap₂ option_or
    (not_there root.Row row_item row_number (λ r. refl) objective_address (λ e. cc) model.rows)
    (objective_there model.objective))

-- ---- what differs

-- the items that differ from one model to another
pub record HasDifferences (model after : ModelValue) (d : Differing) : Type 0 where
  pub groups :
      AreSides group_number group_item (λ n. find group_number n model.groups)
      (λ n. find group_number n after.groups) (groups_in d.before) (groups_in d.after)
  pub rows :
      AreSides row_number row_item (λ n. find row_number n model.rows)
      (λ n. find row_number n after.rows) (rows_in d.before) (rows_in d.after)
  pub objective :
      IsSeparated objective_items (Some model.objective) (Some after.objective)
      (option_copied d.before.objective) (option_copied d.after.objective)

module _ (model after : ModelValue) (d : Differing) (h : HasDifferences model after d) where
  abbrev Other : Address → Type 0
  Other at = item_at model at ≢ item_at after at

  group_differs : (xs : List Group)
      → ((g : Group) → Contains xs g
      → option_map group_item (find group_number g.id model.groups)
      ≢ option_map group_item (find group_number g.id after.groups))
      → All Other (group_addresses xs)
  group_differs xs each =
      All-map Other (λ (g : Group). root_address root.Group g.id) xs
      (All-weaker (Contains xs) (λ (g : Group). Other (root_address root.Group g.id))
      (λ g c e. each g c (sym (group_there model g.id) ∙ e ∙ group_there after g.id)) xs
      (All-contains_itself xs))

  row_differs : (xs : List Row)
      → ((r : Row) → Contains xs r
      → option_map row_item (find row_number r.id model.rows)
      ≢ option_map row_item (find row_number r.id after.rows))
      → All Other (row_addresses xs)
  row_differs xs each =
      All-map Other (λ (r : Row). root_address root.Row r.id) xs
      (All-weaker (Contains xs) (λ (r : Row). Other (root_address root.Row r.id))
      (λ r c e. each r c (sym (row_there model r.id) ∙ e ∙ row_there after r.id)) xs
      (All-contains_itself xs))

  objective_differs : (o : Option (Bor Objective))
      → (option_copied o ≢ None → objective_items model.objective ≢ objective_items after.objective)
      → All Other (option_map_or (λ _. objective_address ∷ []) o [])
  objective_differs None other = All-nil Other
  objective_differs (Some o) other =
      All-cons Other objective_address []
      (λ e. other (λ n. none-some o.now (sym n))
      (items_first model.objective
      ∙ ap option_to_list (sym (objective_stands model) ∙ e ∙ objective_stands after)
      ∙ sym (items_first after.objective)))
      (All-nil Other)

  given : (b a : Option Objective)
      → IsSeparated objective_items (Some model.objective) (Some after.objective) b a
      → ((b ≢ None) ⊎ (a ≢ None))
      → objective_items model.objective ≢ objective_items after.objective
  given b a (same i j k) (inl n) = absurd (n j)
  given b a (same i j k) (inr n) = absurd (n k)
  given b a (differ i j k) n = λ e. i (ap Some e)

  pub all_differ : All Other (differing_addresses d)
  all_differ =
      All-append Other (addresses_in d.before) (addresses_in d.after)
      (All-append Other (group_addresses (groups_in d.before))
      (row_addresses (rows_in d.before)
      ++ option_map_or (λ _. objective_address ∷ []) d.before.objective [])
      (group_differs (groups_in d.before)
      (was_differs root.Group group_item group_number (λ g. refl) model.groups after.groups
      (groups_in d.before) (groups_in d.after) h.groups))
      (All-append Other (row_addresses (rows_in d.before))
      (option_map_or (λ _. objective_address ∷ []) d.before.objective [])
      (row_differs (rows_in d.before)
      (was_differs root.Row row_item row_number (λ r. refl) model.rows after.rows
      (rows_in d.before) (rows_in d.after) h.rows))
      (objective_differs d.before.objective
      (λ n. given (option_copied d.before.objective) (option_copied d.after.objective) h.objective
      (inl n)))))
      (All-append Other (group_addresses (groups_in d.after))
      (row_addresses (rows_in d.after)
      ++ option_map_or (λ _. objective_address ∷ []) d.after.objective [])
      (group_differs (groups_in d.after)
      (is_differs root.Group group_item group_number (λ g. refl) model.groups after.groups
      (groups_in d.before) (groups_in d.after) h.groups))
      (All-append Other (row_addresses (rows_in d.after))
      (option_map_or (λ _. objective_address ∷ []) d.after.objective [])
      (row_differs (rows_in d.after)
      (is_differs root.Row row_item row_number (λ r. refl) model.rows after.rows
      (rows_in d.before) (rows_in d.after) h.rows))
      (objective_differs d.after.objective
      (λ n. given (option_copied d.before.objective) (option_copied d.after.objective) h.objective
      (inr n)))))

  -- ---- and nothing else

  in_groups : (c : ModelItems) (at : Address) → ¬ (Contains (addresses_in c) at)
      → ¬ (Contains (group_addresses (groups_in c)) at)
  in_groups c at out k =
      out (Contains-append_left (group_addresses (groups_in c))
      (row_addresses (rows_in c) ++ option_map_or (λ _. objective_address ∷ []) c.objective []) at
      k)

  in_rows : (c : ModelItems) (at : Address) → ¬ (Contains (addresses_in c) at)
      → ¬ (Contains (row_addresses (rows_in c)) at)
  in_rows c at out k =
      out (Contains-append_right (group_addresses (groups_in c))
      (row_addresses (rows_in c) ++ option_map_or (λ _. objective_address ∷ []) c.objective []) at
      (Contains-append_left (row_addresses (rows_in c))
      (option_map_or (λ _. objective_address ∷ []) c.objective []) at k))

  in_objective : (c : ModelItems) (at : Address) → ¬ (Contains (addresses_in c) at)
      → ¬ (Contains (option_map_or (λ _. objective_address ∷ []) c.objective []) at)
  in_objective c at out k =
      out (Contains-append_right (group_addresses (groups_in c))
      (row_addresses (rows_in c) ++ option_map_or (λ _. objective_address ∷ []) c.objective []) at
      (Contains-append_right (row_addresses (rows_in c))
      (option_map_or (λ _. objective_address ∷ []) c.objective []) at k))

  no_objective : (o : Option (Bor Objective))
      → ¬ (Contains (option_map_or (λ _. objective_address ∷ []) o []) objective_address)
      → option_copied o ≡ None
  no_objective None out = refl
  no_objective (Some o) out = absurd (out (contains_here objective_address []))

  objective_stays : (at : Address) → ¬ (Contains (addresses_in d.before) at)
      → first_passing (is_there at) (objective_items model.objective)
      ≡ first_passing (is_there at) (objective_items after.objective)
  objective_stays at out = by (address_eq objective_address at) refl
    where
      alike : (b a : Option Objective)
          → IsSeparated objective_items (Some model.objective) (Some after.objective) b a
          → b ≡ None → objective_items model.objective ≡ objective_items after.objective
      alike b a (same i j k) n =
          same_Some (objective_items model.objective) (objective_items after.objective) i
      alike b a (differ i j k) n = absurd (none-some model.objective (sym n ∙ j))

      by : (b : Bool) → address_eq objective_address at ≡ b
          → first_passing (is_there at) (objective_items model.objective)
          ≡ first_passing (is_there at) (objective_items after.objective)
      by false e =
          at_objective at model.objective
          ∙ ap (λ b. cond b (first_item model.objective) None) e
          ∙ sym (at_objective at after.objective
          ∙ ap (λ b. cond b (first_item after.objective) None) e)
      by true e =
          ap (first_passing (is_there at))
          (alike (option_copied d.before.objective) (option_copied d.after.objective) h.objective
          (no_objective d.before.objective
          (subst (λ a. ¬ (Contains (option_map_or (λ _. objective_address ∷ []) d.before.objective []) a))
          (sym ((address_eq-Decides objective_address at).0 e)) (in_objective d.before at out))))

  pub others_stay : (at : Address) → ¬ (Contains (differing_addresses d) at)
      → item_at model at ≡ item_at after at
  others_stay at out =
      by_parts model at
      ∙ (λ i. three (groups i) (rows i) (objective_stays at before i))
      ∙ sym (by_parts after at)
    where
      before : ¬ (Contains (addresses_in d.before) at)
      before k = out (Contains-append_left (addresses_in d.before) (addresses_in d.after) at k)

      behind : ¬ (Contains (addresses_in d.after) at)
      behind k = out (Contains-append_right (addresses_in d.before) (addresses_in d.after) at k)

      groups : first_passing (is_there at) (map group_item model.groups)
          ≡ first_passing (is_there at) (map group_item after.groups)
      groups =
          stays_found root.Group group_item group_number (λ g. refl) model.groups after.groups
          (groups_in d.before) (groups_in d.after) h.groups at (in_groups d.before at before)
          (in_groups d.after at behind)

      rows : first_passing (is_there at) (map row_item model.rows)
          ≡ first_passing (is_there at) (map row_item after.rows)
      rows =
          stays_found root.Row row_item row_number (λ r. refl) model.rows after.rows
          (rows_in d.before) (rows_in d.after) h.rows at (in_rows d.before at before)
          (in_rows d.after at behind)

-- ---- from what is listed

alike_sides : {X : Type 0} (number_of : X → ℕ) (item_of : X → Item) (was other is : ℕ → Option X)
    (before after : List X) → ((n : ℕ) → was n ≡ other n)
    → AreSides number_of item_of was is before after
    → AreSides number_of item_of other is before after
alike_sides number_of item_of was other is before after e sides = record {
  rising_before = sides.rising_before;
  rising_after = sides.rising_after;
  each = λ n. subst (λ o. IsSeparated item_of o (is n) (find number_of n before)
      (find number_of n after)) (e n) (sides.each n);
}

-- undos that lead back to a model list what was there
pub record UndosList (undos : List Undo) (listed : ListedChanges) : Type 0 where
  pub groups : AreFirst (flat_map (λ u. u.groups) undos) (listed_groups listed)
  pub rows : AreFirst (flat_map (λ u. u.rows) undos) (listed_rows listed)
  pub objective : option_copied listed.objective ≡ first_objective undos

module _ (model : ModelValue) (undos : List Undo) (after : ModelValue)
    (back : LeadBackTo model undos after) (listed : ListedChanges) (lists : UndosList undos listed) where
  pub groups_listed : AreChanges group_number (listed_groups listed)
  groups_listed =
      listed_changes group_number (λ m. m.groups) (λ u. u.groups) (λ old new undo is. is.groups)
      model undos after back (listed_groups listed) lists.groups

  pub rows_listed : AreChanges row_number (listed_rows listed)
  rows_listed =
      listed_changes row_number (λ m. m.rows) (λ u. u.rows) (λ old new undo is. is.rows)
      model undos after back (listed_rows listed) lists.rows

  pub all_differences : (d : Differing) → AreDiffering listed after d → HasDifferences model after d
  all_differences d h = record {
    groups =
        alike_sides group_number group_item
        (stood_at (λ n. find group_number n after.groups) (listed_groups listed))
        (λ n. find group_number n model.groups) (λ n. find group_number n after.groups)
        (groups_in d.before) (groups_in d.after)
        (stood_is group_number (λ m. m.groups) (λ u. u.groups) (λ old new undo is. is.groups)
        model undos after back (listed_groups listed) lists.groups) h.groups;
    rows =
        alike_sides row_number row_item
        (stood_at (λ n. find row_number n after.rows) (listed_rows listed))
        (λ n. find row_number n model.rows) (λ n. find row_number n after.rows)
        (rows_in d.before) (rows_in d.after)
        (stood_is row_number (λ m. m.rows) (λ u. u.rows) (λ old new undo is. is.rows)
        model undos after back (listed_rows listed) lists.rows) h.rows;
    objective =
        subst (λ o. IsSeparated objective_items (Some o) (Some after.objective)
        (option_copied d.before.objective) (option_copied d.after.objective))
        (ap (λ o. unwrap_or o after.objective) lists.objective
        ∙ objective_stood model undos after back) h.objective;
  }
