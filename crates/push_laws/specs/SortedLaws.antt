-- The user's items stand in the order of their addresses, so what a search finds of them is found in
-- their order.
use Rattle.std.specs.Prelude.{◌≡◌, ◌<◌, ℕ, zero, suc, Bool, true, false, cond, find as first_passing, List, [], ◌∷◌, ◌++◌, All, Contains, Option, Some, None, filter, is_some, map, refl}
use Rattle.std.specs.Ordering.{ordering_then}
use Rattle.std.specs.List.Sorted.{IsStrictlySortedBy}
use Rattle.std.specs.declared.cmp.Ordering.TheVariants.{Equal, Less}
use Rattle.std.proofs.Common.{arith, sym, ap, subst, ◌∙◌, true≢false}
use Rattle.std.proofs.lemmas.List.{map-append}
use Rattle.std.proofs.lemmas.List.Elements.{All-append, All-cons, All-contains, All-map, All-nil, All-weaker, recursion_from_All}
use Rattle.std.proofs.lemmas.List.Kept.{IsStrictlySortedBy-filter}
use Rattle.std.proofs.lemmas.Option.{none-some, same_Some}
use Rattle.aff_core.specs.Address.{Address, address_cmp, address_eq-Decides, address_total, root_address}
use Rattle.aff_core.specs.declared.root.Root.{Root}
use Rattle.aff_core.specs.declared.root.Root.TheVariants as root
use Rattle.fresh_bridging.specs.ModelImage.{group_item, items_of, model_image, objective_items, row_item}
use Rattle.fresh_bridging.specs.Touched.{item_at}
use Rattle.item_core.specs.declared.item.Item.{Item}
use Rattle.leaf_update.specs.LeavesLaws.{among_contained, contains_among}
use Rattle.leaf_update.specs.Others.{among}
use Rattle.local_laws.specs.GoneLaws.{all_kept, kept_in}
use Rattle.local_laws.specs.Held.{is_there}
use Rattle.local_laws.specs.LookedLaws.{found_passes}
use Rattle.local_laws.specs.MentionLaws.{contains_mapped, mapped_contains}
use Rattle.map_laws.specs.EachLaws.{contains_here, contains_later}
use Rattle.map_laws.specs.TestLaws.{less_number}
use Rattle.numbered_list.specs.Laws.{Rise-head, Rise-tail}
use Rattle.numbered_list.specs.Numbered.{Rise}
use Rattle.push_laws.specs.HandedLaws.{is_found}
use Rattle.push_laws.specs.ListLaws.{filter_mapped}
use Rattle.push_laws.specs.OrderLaws.{same_sorted, sorted_append}
use Rattle.push_laws.specs.PlanLaws.{addresses_of}
use Rattle.user_model.specs.Edited.{group_number, row_number}
use Rattle.user_model.specs.Model.{ModelValue}
use Rattle.user_model.specs.Valid.{IsValid}
use Rattle.user_model.specs.declared.objective.Objective.{Objective}
use Rattle.user_model.specs.declared.objective.Objective.TheVariants as objective

abbrev Sorted : List Address → Type 0
Sorted = IsStrictlySortedBy address_cmp

-- ---- addresses of items by their roots

group_less : (m n : ℕ) → m < n
    → address_cmp (root_address root.Group m) (root_address root.Group n) ≡ Less
unfolding address_cmp
group_less m n lt = ap (λ o. ordering_then o Equal) (less_number m n lt)

row_less : (m n : ℕ) → m < n
    → address_cmp (root_address root.Row m) (root_address root.Row n) ≡ Less
unfolding address_cmp
row_less m n lt = ap (λ o. ordering_then o Equal) (less_number m n lt)

group_row : (m n : ℕ) → address_cmp (root_address root.Group m) (root_address root.Row n) ≡ Less
unfolding address_cmp
group_row m n = refl

group_objective : (m n : ℕ)
    → address_cmp (root_address root.Group m) (root_address root.Objective n) ≡ Less
unfolding address_cmp
group_objective m n = refl

row_objective : (m n : ℕ)
    → address_cmp (root_address root.Row m) (root_address root.Objective n) ≡ Less
unfolding address_cmp
row_objective m n = refl

module _ {X : Type 0} (R : Root) (number_of : X → ℕ)
    (less : (m n : ℕ) → m < n → address_cmp (root_address R m) (root_address R n) ≡ Less) where
  numbers_sorted : (xs : List X) → Rise number_of xs
      → Sorted (map (λ x. root_address R (number_of x)) xs)
  unfolding IsStrictlySortedBy
  numbers_sorted [] rise = tt
  numbers_sorted (x ∷ xs) rise = (
    recursion_from_All (λ a. address_cmp (root_address R (number_of x)) a ≡ Less)
        (map (λ x. root_address R (number_of x)) xs)
        (All-map (λ a. address_cmp (root_address R (number_of x)) a ≡ Less)
        (λ x. root_address R (number_of x)) xs
        (All-weaker (λ y. number_of x < number_of y)
        (λ y. address_cmp (root_address R (number_of x)) (root_address R (number_of y)) ≡ Less)
        (λ y lt. less (number_of x) (number_of y) lt) xs (Rise-head number_of x xs rise))),
    numbers_sorted xs (Rise-tail number_of x xs rise),
  )

-- ---- of a model

mapped_twice : {A B C : Type 0} (f : B → C) (g : A → B) (xs : List A)
    → map f (map g xs) ≡ map (λ x. f (g x)) xs
mapped_twice f g [] = refl
mapped_twice f g (x ∷ xs) = ap (λ l. f (g x) ∷ l) (mapped_twice f g xs)

objective_sorted : (o : Objective) → Sorted (addresses_of (objective_items o))
unfolding IsStrictlySortedBy
objective_sorted objective.Feasibility = tt
objective_sorted (objective.Plain sense var) = (tt, tt)
objective_sorted (objective.Affine sense func) = (tt, tt)

objective_root : (o : Objective)
    → All (λ a. a ≡ root_address root.Objective 0) (addresses_of (objective_items o))
objective_root objective.Feasibility = All-nil (λ a. a ≡ root_address root.Objective 0)
objective_root (objective.Plain sense var) =
    All-cons (λ a. a ≡ root_address root.Objective 0) (root_address root.Objective 0) [] refl
    (All-nil (λ a. a ≡ root_address root.Objective 0))
objective_root (objective.Affine sense func) =
    All-cons (λ a. a ≡ root_address root.Objective 0) (root_address root.Objective 0) [] refl
    (All-nil (λ a. a ≡ root_address root.Objective 0))

all_true : {X : Type 0} (P : X → Type 0) (xs : List X) → ((x : X) → P x) → All P xs
all_true P [] h = All-nil P
all_true P (x ∷ xs) h = All-cons P x xs (h x) (all_true P xs h)

pub items_sorted : (model : ModelValue) → IsValid model → Sorted (addresses_of (items_of model))
items_sorted model valid =
    subst Sorted (sym parts)
    (sorted_append address_total groups (rows ++ last)
    (numbers_sorted root.Group group_number group_less model.groups valid.consistent.groups_rise)
    (sorted_append address_total rows last
    (numbers_sorted root.Row row_number row_less model.rows valid.consistent.rows_rise)
    (objective_sorted model.objective) rows_last)
    groups_last)
  where
    groups : List Address
    groups = map (λ g. root_address root.Group (group_number g)) model.groups

    rows : List Address
    rows = map (λ r. root_address root.Row (row_number r)) model.rows

    last : List Address
    last = addresses_of (objective_items model.objective)

    parts : addresses_of (items_of model) ≡ groups ++ (rows ++ last)
    parts =
        map-append (λ i. i.at) (model_image model).groups (model_image model).others
        ∙ ap (λ l. l ++ addresses_of (model_image model).others)
        (mapped_twice (λ i. i.at) group_item model.groups)
        ∙ ap (λ l. groups ++ l)
        (map-append (λ i. i.at) (map row_item model.rows) (objective_items model.objective)
        ∙ ap (λ l. l ++ last) (mapped_twice (λ i. i.at) row_item model.rows))

    rows_last : All (λ a. All (λ b. address_cmp a b ≡ Less) last) rows
    rows_last =
        All-map (λ a. All (λ b. address_cmp a b ≡ Less) last)
        (λ r. root_address root.Row (row_number r)) model.rows
        (all_true (λ r. All (λ b. address_cmp (root_address root.Row (row_number r)) b ≡ Less) last)
        model.rows
        (λ r. All-weaker (λ b. b ≡ root_address root.Objective 0)
        (λ b. address_cmp (root_address root.Row (row_number r)) b ≡ Less)
        (λ b is. ap (address_cmp (root_address root.Row (row_number r))) is
        ∙ row_objective (row_number r) 0) last (objective_root model.objective)))

    groups_last : All (λ a. All (λ b. address_cmp a b ≡ Less) (rows ++ last)) groups
    groups_last =
        All-map (λ a. All (λ b. address_cmp a b ≡ Less) (rows ++ last))
        (λ g. root_address root.Group (group_number g)) model.groups
        (all_true
        (λ g. All (λ b. address_cmp (root_address root.Group (group_number g)) b ≡ Less)
        (rows ++ last)) model.groups
        (λ g. All-append (λ b. address_cmp (root_address root.Group (group_number g)) b ≡ Less) rows
        last
        (All-map (λ b. address_cmp (root_address root.Group (group_number g)) b ≡ Less)
        (λ r. root_address root.Row (row_number r)) model.rows
        (all_true (λ r. address_cmp (root_address root.Group (group_number g))
        (root_address root.Row (row_number r)) ≡ Less) model.rows
        (λ r. group_row (group_number g) (row_number r))))
        (All-weaker (λ b. b ≡ root_address root.Objective 0)
        (λ b. address_cmp (root_address root.Group (group_number g)) b ≡ Less)
        (λ b is. ap (address_cmp (root_address root.Group (group_number g))) is
        ∙ group_objective (group_number g) 0) last (objective_root model.objective))))

-- ---- items at some addresses

some_passes : (p : Item → Bool) (items : List Item) (i : Item) → Contains items i → p i ≡ true
    → is_some (first_passing p items) ≡ true
some_passes p [] i c t = absurd (omega (arith, c.1))
some_passes p (x ∷ xs) i c t = by (p x) refl c (some_passes p xs i)
  where
    by : (b : Bool) → p x ≡ b → Contains (x ∷ xs) i
        → (Contains xs i → p i ≡ true → is_some (first_passing p xs) ≡ true)
        → is_some (cond b (Some x) (first_passing p xs)) ≡ true
    by true e c later = refl
    by false e (zero, inside, is) later =
        absurd (true≢false (sym t ∙ ap p (sym is) ∙ e))
    by false e (suc k, inside, is) later = later (k, omega (arith, inside), is) t

pub passing_contained : (p : Item → Bool) (items : List Item) (i : Item)
    → first_passing p items ≡ Some i → Contains items i
passing_contained p [] i e = absurd (none-some i e)
passing_contained p (x ∷ xs) i e = by (p x) e (passing_contained p xs i)
  where
    by : (b : Bool) → cond b (Some x) (first_passing p xs) ≡ Some i
        → (first_passing p xs ≡ Some i → Contains xs i) → Contains (x ∷ xs) i
    by true f later = subst (Contains (x ∷ xs)) (same_Some x i f) (contains_here x xs)
    by false f later = contains_later x i xs (later f)

-- the addresses of these at which an item stands are those of the model's items at them, in their
-- order
pub standing_addresses : (model : ModelValue) → IsValid model → (ats : List Address) → Sorted ats
    → filter (λ a. is_some (item_at model a)) ats
    ≡ addresses_of (filter (is_found ats) (items_of model))
standing_addresses model valid ats sorted =
    same_sorted address_total (filter there ats) (filter (among ats) all)
    (IsStrictlySortedBy-filter address_cmp there ats sorted)
    (IsStrictlySortedBy-filter address_cmp (among ats) all (items_sorted model valid))
    to from
    ∙ filter_mapped (among ats) (λ i. i.at) (items_of model)
  where
    there : Address → Bool
    there a = is_some (item_at model a)

    all : List Address
    all = addresses_of (items_of model)

    to : (a : Address) → Contains (filter there ats) a → Contains (filter (among ats) all) a
    to a c =
        let k = All-contains (λ a. Contains ats a × (there a ≡ true)) (filter there ats) a
        (all_kept there ats) c in
        kept_in (among ats) all a (by (item_at model a) refl k.1) (among_contained a ats k.0)
      where
        by : (o : Option Item) → item_at model a ≡ o → is_some o ≡ true → Contains all a
        by None e t = absurd (true≢false (sym t))
        by (Some i) e t =
            subst (Contains all) ((address_eq-Decides i.at a).0 (found_passes (is_there a) (items_of model) i e))
            (mapped_contains (λ i. i.at) (items_of model) i
            (passing_contained (is_there a) (items_of model) i e))

    from : (a : Address) → Contains (filter (among ats) all) a → Contains (filter there ats) a
    from a c =
        let k = All-contains (λ a. Contains all a × (among ats a ≡ true)) (filter (among ats) all) a
        (all_kept (among ats) all) c in
        let i = contains_mapped (λ i. i.at) (items_of model) a k.0 in
        kept_in there ats a (contains_among a ats k.1)
        (some_passes (is_there a) (items_of model) i.0 i.1
        ((address_eq-Decides i.0.at a).1 i.2))
