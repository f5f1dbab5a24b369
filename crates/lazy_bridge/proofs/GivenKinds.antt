-- Items that are given by their kinds stand at the addresses of what is given, and no others of the model
-- do: beside them a model is the same as itself.
use Rattle.std.specs.Prelude.{◌≡◌, ◌⊎◌, ◌++◌, ◌&&◌, ◌||◌, Bool, true, false, cond, not, List, [], ◌∷◌, All, Contains, Option, Some, None, filter, find, map, refl}
use Rattle.std.specs.Borrow.{Bor}
use Rattle.std.specs.List.{list_any}
use Rattle.std.specs.Option.{option_copied, option_map_or}
use Rattle.std.proofs.Common.{inl, inr, ap, ap₂, sym, subst, ◌∙◌, true≢false}
use Rattle.std.proofs.lemmas.List.{map-append}
use Rattle.std.proofs.lemmas.List.Elements.{All-append, All-contains, All-contains_itself, All-filter, All-weaker, Contains-append_cases, Contains-append_left, filter-append}
use Rattle.std.proofs.lemmas.Option.{same_Some}
use Rattle.aff_core.specs.Address.{Address, address_eq, root_address}
use Rattle.aff_core.specs.declared.root.Root.TheVariants as root
use Rattle.push_laws.specs.Edits.{AreGroupsAt, Separates, contents_name}
use Rattle.push_laws.specs.GivenLaws.{each_kept, same_filter}
use Rattle.fresh_bridging.specs.ModelImage.{group_item, items_of, model_image, objective_item, objective_items, row_item}
use Rattle.item_core.specs.declared.item.Body.TheVariants.{PlainObj, AffineObj}
use Rattle.fresh_bridging.specs.Touched.{item_at}
use Rattle.item_core.specs.declared.item.Item.{Item}
use Rattle.item_core.specs.declared.kind.Kind.{Kind}
use Rattle.leaf_update.specs.LeavesLaws.{among_contained, contains_among}
use Rattle.local_laws.specs.FoundLaws.{item_of_group}
use Rattle.local_laws.specs.Held.{is_there}
use Rattle.local_laws.specs.MentionLaws.{contains_mapped, mapped_contains}
use Rattle.push_laws.specs.AloneLaws.{groups_found, others_there}
use Rattle.push_laws.specs.HandedLaws.{is_found}
use Rattle.push_laws.specs.ListLaws.{filter_mapped, kept_item}
use Rattle.table_change.specs.Given.{AreGiven, is_given}
use Rattle.touched_items.specs.DifferenceLaws.{objective_address}
use Rattle.touched_items.specs.Differences.{addresses_in, differing_addresses, groups_in, rows_in}
use Rattle.touched_items.specs.IndexLaws.{other_names, row_names}
use Rattle.touched_items.specs.declared.differing.ModelItems.{ModelItems}
use Rattle.touched_items.specs.declared.differing.Differing.{Differing}
use Rattle.user_model.specs.Model.{ModelValue, objective_mentions}
use Rattle.user_model.specs.Valid.{IsValid}
use Rattle.user_model.specs.declared.group.Group.{Group}
use Rattle.user_model.specs.declared.objective.Objective.{Objective}
use Rattle.user_model.specs.declared.objective.Objective.TheVariants as objective
use Rattle.user_model.specs.declared.row.Row.{Row}

-- ---- lists

any_kept : {A : Type 0} (p q : A → Bool) (xs : List A) → list_any p (filter q xs) ≡ true
    → list_any p xs ≡ true
any_kept p q [] t = t
any_kept p q (x ∷ xs) t = by (q x) t (any_kept p q xs)
  where
    or_right : (a b : Bool) → b ≡ true → (a || b) ≡ true
    or_right true b e = refl
    or_right false b e = e

    either : (a b c : Bool) → (a || b) ≡ true → (b ≡ true → c ≡ true) → (a || c) ≡ true
    either true b c e later = refl
    either false b c e later = later e

    by : (b : Bool) → list_any p (cond b (x ∷ filter q xs) (filter q xs)) ≡ true
        → (list_any p (filter q xs) ≡ true → list_any p xs ≡ true)
        → (p x || list_any p xs) ≡ true
    by true e later = either (p x) (list_any p (filter q xs)) (list_any p xs) e later
    by false e later = or_right (p x) (list_any p xs) (later e)

-- ---- each item of a model is the one at its address

pub item_here : (model : ModelValue) → IsValid model
    → All (λ i. item_at model i.at ≡ Some i) (items_of model)
item_here model valid =
    All-append (λ i. item_at model i.at ≡ Some i) (model_image model).groups
    (model_image model).others
    (All-weaker (λ g. find (is_there g.at) (model_image model).groups ≡ Some g) (λ i. item_at model i.at ≡ Some i)
    (λ g f. item_of_group model g.at g f) (model_image model).groups (groups_found model valid))
    (others_there model valid)

module _ (changed : Kind → Bool) (kept : Address → Bool) (model : ModelValue) (valid : IsValid model)
  where
    abbrev Given : Item → Bool
    Given = is_given changed kept

    objective_addresses : (o : Objective) (c : Option (Bor Objective))
        → option_copied c ≡ cond (list_any Given (objective_items o)) (Some o) None
        → option_map_or (λ _. objective_address ∷ []) c []
        ≡ map (λ (i : Item). i.at) (filter Given (objective_items o))
    objective_addresses o c e = copied c ∙ ap from e ∙ by o
      where
        from : Option Objective → List Address
        from x = option_map_or (λ _. objective_address ∷ []) x []

        copied : (c : Option (Bor Objective))
            → option_map_or (λ _. objective_address ∷ []) c [] ≡ from (option_copied c)
        copied None = refl
        copied (Some x) = refl

        one : (b : Bool) (o : Objective) (i : Item) → i.at ≡ objective_address
            → from (cond (b || false) (Some o) None) ≡ map (λ (i : Item). i.at) (cond b (i ∷ []) [])
        one true o i is = ap (λ a. a ∷ []) (sym is)
        one false o i is = refl

        by : (o : Objective)
            → from (cond (list_any Given (objective_items o)) (Some o) None)
            ≡ map (λ (i : Item). i.at) (filter Given (objective_items o))
        by objective.Feasibility = refl
        by (objective.Plain sense var) =
            let i = objective_item (PlainObj sense var) in
            one (Given i) (objective.Plain sense var) i refl
        by (objective.Affine sense func) =
            let i = objective_item (AffineObj sense func) in
            one (Given i) (objective.Affine sense func) i refl

    each_at : {X : Type 0} (f : X → Item) (at : X → Address) → ((x : X) → (f x).at ≡ at x)
        → (xs : List X) → map at (filter (λ x. Given (f x)) xs)
        ≡ map (λ (i : Item). i.at) (filter Given (map f xs))
    each_at f at is [] = refl
    each_at f at is (x ∷ xs) = by (Given (f x)) (each_at f at is xs)
      where
        by : (b : Bool) → map at (filter (λ x. Given (f x)) xs)
            ≡ map (λ (i : Item). i.at) (filter Given (map f xs))
            → map at (cond b (x ∷ filter (λ x. Given (f x)) xs) (filter (λ x. Given (f x)) xs))
            ≡ map (λ (i : Item). i.at) (cond b (f x ∷ filter Given (map f xs)) (filter Given (map f xs)))
        by true later = ap₂ (λ a ats. a ∷ ats) (sym (is x)) later
        by false later = later

    -- the addresses of what is given are those of the given items
    pub addresses_are : (c : ModelItems) → AreGiven changed kept model c
        → addresses_in c ≡ map (λ (i : Item). i.at) (filter Given (items_of model))
    addresses_are c are =
        ap₂ ◌++◌
        (ap (map (λ (g : Group). root_address root.Group g.id)) are.groups
        ∙ each_at group_item (λ (g : Group). root_address root.Group g.id) (λ g. refl) model.groups)
        (ap₂ ◌++◌
        (ap (map (λ (r : Row). root_address root.Row r.id)) are.rows
        ∙ each_at row_item (λ (r : Row). root_address root.Row r.id) (λ r. refl) model.rows)
        (objective_addresses model.objective c.objective are.objective)
        ∙ sym (map-append (λ (i : Item). i.at) (filter Given (map row_item model.rows))
        (filter Given (objective_items model.objective)))
        ∙ ap (map (λ (i : Item). i.at))
        (sym (filter-append Given (map row_item model.rows) (objective_items model.objective))))
        ∙ sym (map-append (λ (i : Item). i.at) (filter Given (model_image model).groups)
        (filter Given (model_image model).others))
        ∙ ap (map (λ (i : Item). i.at))
        (sym (filter-append Given (model_image model).groups (model_image model).others))

    -- ---- of both sides

    module _ (d : Differing) (before : AreGiven changed kept model d.before)
        (behind : AreGiven changed kept model d.after) where
      -- at each address an item is given
      pub given_there : (at : Address) → Contains (differing_addresses d) at
          → (i : Item) × Contains (items_of model) i × (Given i ≡ true) × (i.at ≡ at)
      given_there at c =
          by (Contains-append_cases (addresses_in d.before) (addresses_in d.after) at c)
        where
          from : (c : ModelItems) → AreGiven changed kept model c → Contains (addresses_in c) at
              → (i : Item) × Contains (items_of model) i × (Given i ≡ true) × (i.at ≡ at)
          from c are k =
              let r = contains_mapped (λ (i : Item). i.at) (filter Given (items_of model)) at
              (subst (λ l. Contains l at) (addresses_are c are) k) in (
                r.0,
                All-contains (Contains (items_of model)) (filter Given (items_of model)) r.0
                    (All-filter Given (Contains (items_of model)) (items_of model)
                    (All-contains_itself (items_of model))) r.1,
                All-contains (λ i. Given i ≡ true) (filter Given (items_of model)) r.0
                    (each_kept Given (items_of model)) r.1,
                r.2,
              )

          by : Contains (addresses_in d.before) at ⊎ Contains (addresses_in d.after) at
              → (i : Item) × Contains (items_of model) i × (Given i ≡ true) × (i.at ≡ at)
          by (inl k) = from d.before before k
          by (inr k) = from d.after behind k

      -- and each given item stands at one
      pub there_given : (i : Item) → Contains (items_of model) i → Given i ≡ true
          → Contains (differing_addresses d) i.at
      there_given i inside t =
          Contains-append_left (addresses_in d.before) (addresses_in d.after) i.at
          (subst (λ l. Contains l i.at) (sym (addresses_are d.before before))
          (mapped_contains (λ (i : Item). i.at) (filter Given (items_of model)) i
          (kept_item Given (items_of model) i inside t)))

      -- so an item of the model is found there exactly where it is given
      pub found_given : (i : Item) → Contains (items_of model) i
          → is_found (differing_addresses d) i ≡ Given i
      found_given i inside = by (is_found (differing_addresses d) i) refl (Given i) refl
        where
          here : (j : Item) → Contains (items_of model) j → item_at model j.at ≡ Some j
          here j k =
              All-contains (λ i. item_at model i.at ≡ Some i) (items_of model) j
              (item_here model valid) k

          by : (a : Bool) → is_found (differing_addresses d) i ≡ a → (b : Bool) → Given i ≡ b
              → a ≡ b
          by true e true f = refl
          by true e false f =
              let r = given_there i.at (contains_among i.at (differing_addresses d) e) in
              let same : r.0 ≡ i = same_Some r.0 i
              (sym (here r.0 r.1) ∙ ap (item_at model) r.3 ∙ here i inside) in
              sym r.2 ∙ ap Given same ∙ f
          by false e true f =
              sym e ∙ among_contained i.at (differing_addresses d) (there_given i inside f)
          by false e false f = refl

      -- ---- beside them

      groups_at : (c : ModelItems) → AreGiven changed kept model c
          → AreGroupsAt model (differing_addresses d) (groups_in c)
      groups_at c are =
          same_filter (is_found (differing_addresses d)) Given (model_image model).groups
          (All-weaker (Contains (model_image model).groups)
          (λ i. is_found (differing_addresses d) i ≡ Given i)
          (λ i k. found_given i
          (Contains-append_left (model_image model).groups (model_image model).others i k))
          (model_image model).groups (All-contains_itself (model_image model).groups))
          ∙ filter_mapped Given group_item model.groups
          ∙ ap (map group_item) (sym are.groups)

      -- what is named by what is given is named by the model
      named_given : (c : ModelItems) → AreGiven changed kept model c → (var at : Address)
          → contents_name c var at ≡ true → other_names model var at ≡ true
      named_given c are var at t =
          either (list_any (λ r. row_names r var at) (rows_in c)) _ _ _ t
          (λ e. any_kept (λ r. row_names r var at) (λ r. Given (row_item r)) model.rows
          (ap (list_any (λ r. row_names r var at)) (sym are.rows) ∙ e))
          (λ e. both (address_eq at objective_address) _ _ e
          (λ f. of_objective (list_any Given (objective_items model.objective))
          (ap (λ o. option_map_or (objective_mentions var) o false) (sym are.objective) ∙ f)))
        where
          either : (a b x y : Bool) → (a || b) ≡ true → (a ≡ true → x ≡ true)
              → (b ≡ true → y ≡ true) → (x || y) ≡ true
          either true b x y e f g = ap (λ z. z || y) (f refl)
          either false b true y e f g = refl
          either false b false y e f g = g e

          both : (a b y : Bool) → (a && b) ≡ true → (b ≡ true → y ≡ true) → (a && y) ≡ true
          both true b y e f = f e
          both false b y e f = e

          of_objective : (b : Bool)
              → option_map_or (objective_mentions var) (cond b (Some model.objective) None) false
              ≡ true
              → objective_mentions var model.objective ≡ true
          of_objective true e = e
          of_objective false e = absurd (true≢false (sym e))

      names_stay : (var at : Address)
          → ((other_names model var at && not (contents_name d.before var at))
          || contents_name d.after var at)
          ≡ other_names model var at
      names_stay var at =
          ap (λ b. (other_names model var at && not b) || contents_name d.after var at) same_names
          ∙ by (other_names model var at) (contents_name d.after var at)
          (named_given d.after behind var at)
        where
          same_names : contents_name d.before var at ≡ contents_name d.after var at
          same_names =
              ap₂ (λ rs o. list_any (λ r. row_names r var at) rs
              || (address_eq at objective_address && option_map_or (objective_mentions var) o false))
              (before.rows ∙ sym behind.rows) (before.objective ∙ sym behind.objective)

          by : (a b : Bool) → (b ≡ true → a ≡ true) → ((a && not b) || b) ≡ a
          by true true h = refl
          by true false h = refl
          by false true h = sym (h refl)
          by false false h = refl

      pub given_apart : Separates model model d
      given_apart = record {
        same = λ at out. refl;
        before = groups_at d.before before;
        behind = groups_at d.after behind;
        named = named_given d.before before;
        names = names_stay;
      }
