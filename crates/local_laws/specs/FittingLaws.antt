-- The first of the user's items that doesn't fit is the first of which what is held doesn't, so it
-- is found among those that a change touches.
use Rattle.std.specs.Prelude.{filter, IsSome, is_some, ◌≡◌, ◌&&◌, Bool, true, false, not, cond, if◌then◌else◌, List, [], ◌∷◌, All, find, Option, Some, None, refl}
use Rattle.std.proofs.Common.{sym, ap, ap₂, subst, ◌∙◌, true≢false}
use Rattle.std.specs.List.{list_all}
use Rattle.std.specs.Option.{option_map, option_or}
use Rattle.std.proofs.lemmas.List.Elements.{All-cons, All-head, All-nil, All-tail, All-weaker}
use Rattle.std.proofs.lemmas.List.Folds.{find-append}
use Rattle.map_laws.specs.OptionLaws.{not_some}
use Rattle.std.proofs.lemmas.List.Sums.{AllPass-from_list_all}
use Rattle.std.proofs.lemmas.List.Folds.{list_all-append}
use Rattle.std.proofs.lemmas.Option.{none-some, same_Some}
use Rattle.expansion.specs.Bridged.{EachBridged, EachBridgedIn, each, each_in, none, none_in}
use Rattle.expansion.specs.Grown.{Held, put_held}
use Rattle.expansion.specs.GrownLaws.{held}
use Rattle.expansion.specs.Read.{fits, fits_each, fits_in, unfit_each, unfit_in}
use Rattle.expansion.specs.Rules.{Rules}
use Rattle.aff_core.specs.Address.{Address, address_eq-Decides}
use Rattle.item_core.specs.declared.item.Item.{Item}
use Rattle.user_model.specs.Model.{ModelValue}
use Rattle.fresh_bridging.specs.Entries.{Entry}
use Rattle.fresh_bridging.specs.FreshBridging.{FreshBridging, is_made, unfit_at}
use Rattle.fresh_bridging.specs.ModelImage.{items_of, model_image}
use Rattle.fresh_bridging.specs.TheRules.{Setting, rules_by}
use Rattle.fresh_bridging.specs.Touched.{IsTouched, item_at}
use Rattle.address_laws.specs.Keys.{Mine}
use Rattle.address_laws.specs.Regions.{AreRegionsApart, AtOrBelow}
use Rattle.local_laws.specs.Held.{fit, fits_at, held_at_each, held_at_in, held_of, is_there}
use Rattle.local_laws.specs.HeldLaws.{none_at_each}
use Rattle.local_laws.specs.LookedLaws.{below_itself, found_passes, groups_apart, mine_itself, no_groups, others_below_apart}
use Rattle.local_laws.specs.Sound.{IsValidUnder}
use Rattle.local_laws.specs.Stays.{StaysAt}
use Rattle.local_laws.specs.StaysLaws.{found_is, holds_alike, none_held, untouched_stays}

-- ---- lists

-- each item stands at an address of its own
abbrev pub AreAlone : List Item → Type 0
AreAlone [] = Unit {0}
AreAlone (x ∷ xs) = All (λ y. ¬ (x.at ≡ y.at)) xs × AreAlone xs

pub alone : (Of : Item → Address → Type 0) → ((item : Item) → Of item item.at) → (items : List Item)
    → AreRegionsApart Of items → AreAlone items
alone Of itself [] h = tt
alone Of itself (x ∷ xs) h = (
  All-weaker (λ y. ¬ (Of y x.at)) (λ y. ¬ (x.at ≡ y.at))
      (λ y n e. n (subst (Of y) (sym e) (itself y))) xs (h.0 x.at (itself x)),
  alone Of itself xs h.1,
)

find_same : (p q : Item → Bool) (xs : List Item) → All (λ x. p x ≡ q x) xs → find p xs ≡ find q xs
find_same p q [] h = refl
find_same p q (x ∷ xs) h =
    ap₂ (λ b o. cond b (Some x) o) (All-head (λ x. p x ≡ q x) x xs h)
    (find_same p q xs (All-tail (λ x. p x ≡ q x) x xs h))

all_same : (p q : Item → Bool) (xs : List Item) → All (λ x. p x ≡ q x) xs
    → list_all p xs ≡ list_all q xs
all_same p q [] h = refl
all_same p q (x ∷ xs) h =
    ap₂ ◌&&◌ (All-head (λ x. p x ≡ q x) x xs h)
    (all_same p q xs (All-tail (λ x. p x ≡ q x) x xs h))

there : (x : Item) → is_there x.at x ≡ true
there x = (address_eq-Decides x.at x.at).1 refl

elsewhere : (x y : Item) → ¬ (x.at ≡ y.at) → is_there y.at x ≡ false
elsewhere x y n = by (is_there y.at x) refl
  where
    by : (b : Bool) → is_there y.at x ≡ b → b ≡ false
    by true e = absurd (n ((address_eq-Decides x.at y.at).0 e))
    by false e = refl

-- ---- along the trees

module _ {rules : Rules Item Entry} where
  fits_each_at : {items : List Item} {entries : List Entry} (trees : EachBridged rules items entries)
      → AreAlone items
      → (fits_each trees ≡ list_all (λ i. fit (held_at_each i.at trees)) items)
      × (unfit_each trees ≡ find (λ i. not (fit (held_at_each i.at trees))) items)
  unfolding fits unfit_each held_at_each
  fits_each_at none h = (refl, refl)
  fits_each_at (each {item = x} {items} first rest) h =
      let here : fit (cond (is_there x.at x) (Some (held first)) (held_at_each x.at rest)) ≡ fits first
      = ap (λ b. fit (cond b (Some (held first)) (held_at_each x.at rest))) (there x) in
      let later : All (λ y. fit (held_at_each y.at rest)
      ≡ fit (cond (is_there y.at x) (Some (held first)) (held_at_each y.at rest))) items =
      All-weaker (λ y. ¬ (x.at ≡ y.at)) (λ y. fit (held_at_each y.at rest)
      ≡ fit (cond (is_there y.at x) (Some (held first)) (held_at_each y.at rest)))
      (λ y n. sym (ap (λ b. fit (cond b (Some (held first)) (held_at_each y.at rest)))
      (elsewhere x y n))) items h.0 in
      let more = fits_each_at rest h.1 in (
        ap₂ ◌&&◌ (sym here) (more.0 ∙ all_same (λ y. fit (held_at_each y.at rest))
            (λ y. fit (cond (is_there y.at x) (Some (held first)) (held_at_each y.at rest)))
            items later),
        step (fits first) (sym here)
            (more.1 ∙ find_same (λ y. not (fit (held_at_each y.at rest)))
            (λ y. not (fit (cond (is_there y.at x) (Some (held first)) (held_at_each y.at rest))))
            items (All-weaker (λ y. fit (held_at_each y.at rest)
            ≡ fit (cond (is_there y.at x) (Some (held first)) (held_at_each y.at rest)))
            (λ y. not (fit (held_at_each y.at rest))
            ≡ not (fit (cond (is_there y.at x) (Some (held first)) (held_at_each y.at rest))))
            (λ y e. ap not e) items later)),
      )
    where
      step : {c : Bool} {o p : Option Item} (b : Bool) → b ≡ c → o ≡ p
          → (if b then o else Some x) ≡ cond (not c) (Some x) p
      step {c} {o} {p} b e f =
          ap₂ (λ c o. if c then o else Some x) e f ∙ by c
        where
          by : (c : Bool) → (if c then p else Some x) ≡ cond (not c) (Some x) p
          by true = refl
          by false = refl

  fits_in_at : {inner : List Entry} {items : List Item} (trees : EachBridgedIn rules inner items)
      → AreAlone items
      → (fits_in trees ≡ list_all (λ i. fit (held_at_in i.at trees)) items)
      × (unfit_in trees ≡ find (λ i. not (fit (held_at_in i.at trees))) items)
  unfolding fits unfit_in held_at_in
  fits_in_at none_in h = (refl, refl)
  fits_in_at (each_in {inner} {item = x} {items} first rest) h =
      let H : Bool = rules.put_in_fits inner x && fits first in
      let S : Option (Held Item Entry) = Some (put_held rules inner x (held first)) in
      let here : fit (cond (is_there x.at x) S (held_at_in x.at rest)) ≡ H
      = ap (λ b. fit (cond b S (held_at_in x.at rest))) (there x) in
      let later : All (λ y. fit (held_at_in y.at rest)
      ≡ fit (cond (is_there y.at x) S (held_at_in y.at rest))) items =
      All-weaker (λ y. ¬ (x.at ≡ y.at)) (λ y. fit (held_at_in y.at rest)
      ≡ fit (cond (is_there y.at x) S (held_at_in y.at rest)))
      (λ y n. sym (ap (λ b. fit (cond b S (held_at_in y.at rest)))
      (elsewhere x y n))) items h.0 in
      let more = fits_in_at rest h.1 in (
        ap₂ ◌&&◌ (sym here) (more.0 ∙ all_same (λ y. fit (held_at_in y.at rest))
            (λ y. fit (cond (is_there y.at x) S (held_at_in y.at rest)))
            items later),
        step H (sym here)
            (more.1 ∙ find_same (λ y. not (fit (held_at_in y.at rest)))
            (λ y. not (fit (cond (is_there y.at x) S (held_at_in y.at rest))))
            items (All-weaker (λ y. fit (held_at_in y.at rest)
            ≡ fit (cond (is_there y.at x) S (held_at_in y.at rest)))
            (λ y. not (fit (held_at_in y.at rest))
            ≡ not (fit (cond (is_there y.at x) S (held_at_in y.at rest))))
            (λ y e. ap not e) items later)),
      )
    where
      step : {c : Bool} {o p : Option Item} (b : Bool) → b ≡ c → o ≡ p
          → (if b then o else Some x) ≡ cond (not c) (Some x) p
      step {c} {o} {p} b e f =
          ap₂ (λ c o. if c then o else Some x) e f ∙ by c
        where
          by : (c : Bool) → (if c then p else Some x) ≡ cond (not c) (Some x) p
          by true = refl
          by false = refl

  all_held : {items : List Item} {entries : List Entry} (trees : EachBridged rules items entries)
      → All (λ i. IsSome (held_at_each i.at trees)) items
  unfolding held_at_each
  all_held none = let o : Option (Held Item Entry) = None in All-nil (λ (i : Item). IsSome o)
  all_held (each {item = x} {items} first rest) =
      All-cons (λ i. IsSome (cond (is_there i.at x) (Some (held first)) (held_at_each i.at rest)))
      x items
      (ap (λ b. is_some (cond b (Some (held first)) (held_at_each x.at rest))) (there x))
      (All-weaker (λ i. IsSome (held_at_each i.at rest))
      (λ i. IsSome (cond (is_there i.at x) (Some (held first)) (held_at_each i.at rest)))
      (λ i h. by (is_there i.at x) (held_at_each i.at rest) h) items (all_held rest))
    where
      by : (b : Bool) (o : Option (Held Item Entry)) → IsSome o → IsSome (cond b (Some (held first)) o)
      by true o h = refl
      by false o h = h

-- what is held is held of an item that stands there
held_item : {setting : Setting} {model : ModelValue} (bridging : FreshBridging setting model)
    (at : Address) (h : Held Item Entry) → held_of bridging at ≡ Some h
    → (item : Item) × (item_at model at ≡ Some item) × (item.at ≡ at)
held_item {model = model} bridging at h e =
    by (item_at model at) refl
  where
    by : (o : Option Item) → item_at model at ≡ o
        → (item : Item) × (item_at model at ≡ Some item) × (item.at ≡ at)
    by (Some i) f =
        (i, f, (address_eq-Decides i.at at).0 (found_passes (is_there at) (items_of model) i f))
    by None f = absurd (none-some h (sym (none_held bridging at f) ∙ e))

-- ---- of a model

module _ {setting : Setting} {model : ModelValue} (sound : IsValidUnder setting model)
    (bridging : FreshBridging setting model) where
  abbrev Unfit : Item → Bool
  Unfit i = not (fits_at bridging i.at)

  groups_at : All (λ i. fit (held_at_each i.at bridging.made.groups) ≡ fits_at bridging i.at)
      (model_image model).groups
  groups_at = each (model_image model).groups bridging.made.groups
    where
      first_is : (i : Item) (o p : Option (Held Item Entry)) → IsSome o → fit o ≡ fit (option_or o p)
      first_is i None p h = absurd (not_some {X = Held Item Entry} None refl h)
      first_is i (Some x) p h = refl

      each : (items : List Item) {entries : List Entry}
          (trees : EachBridged (rules_by bridging.choice) items entries)
          → All (λ i. fit (held_at_each i.at trees)
          ≡ fit (option_or (held_at_each i.at trees) (held_at_in i.at bridging.made.others))) items
      each items trees =
          All-weaker (λ i. IsSome (held_at_each i.at trees))
          (λ i. fit (held_at_each i.at trees)
          ≡ fit (option_or (held_at_each i.at trees) (held_at_in i.at bridging.made.others)))
          (λ i h. first_is i (held_at_each i.at trees) (held_at_in i.at bridging.made.others) h)
          items (all_held trees)

  others_at : All (λ i. fit (held_at_in i.at bridging.made.others) ≡ fits_at bridging i.at)
      (model_image model).others
  others_at =
      All-weaker (λ i. find (is_there i.at) (model_image model).groups ≡ None)
      (λ i. fit (held_at_in i.at bridging.made.others) ≡ fits_at bridging i.at)
      (λ i e. ap (λ o. fit (option_or o (held_at_in i.at bridging.made.others)))
      (sym (none_at_each i.at bridging.made.groups e)))
      (model_image model).others
      (no_groups setting sound.costly sound.lawful model sound.valid bridging)

  pub groups_alone : AreAlone (model_image model).groups
  groups_alone =
      alone Mine mine_itself (model_image model).groups
      (groups_apart setting sound.costly sound.lawful model sound.valid bridging)

  pub others_alone : AreAlone (model_image model).others
  others_alone =
      alone AtOrBelow below_itself (model_image model).others
      (others_below_apart setting sound.costly sound.lawful model sound.valid bridging)

  -- it is made where each item fits
  pub made_is : is_made bridging ≡ list_all (λ i. fits_at bridging i.at) (items_of model)
  made_is =
      ap₂ ◌&&◌
      ((fits_each_at bridging.made.groups groups_alone).0
      ∙ all_same (λ i. fit (held_at_each i.at bridging.made.groups)) (λ i. fits_at bridging i.at)
      (model_image model).groups groups_at)
      ((fits_in_at bridging.made.others others_alone).0
      ∙ all_same (λ i. fit (held_at_in i.at bridging.made.others)) (λ i. fits_at bridging i.at)
      (model_image model).others others_at)
      ∙ sym (list_all-append (λ i. fits_at bridging i.at) (model_image model).groups
      (model_image model).others)

  -- and the first that doesn't is the first of which what is held doesn't
  pub unfit_is : unfit_at bridging ≡ option_map (λ i. i.at) (find Unfit (items_of model))
  unfit_is =
      ap (option_map (λ i. i.at))
      (ap₂ option_or
      ((fits_each_at bridging.made.groups groups_alone).1
      ∙ find_same (λ i. not (fit (held_at_each i.at bridging.made.groups))) Unfit
      (model_image model).groups
      (All-weaker (λ i. fit (held_at_each i.at bridging.made.groups) ≡ fits_at bridging i.at)
      (λ i. not (fit (held_at_each i.at bridging.made.groups)) ≡ not (fits_at bridging i.at))
      (λ i e. ap not e) (model_image model).groups groups_at))
      ((fits_in_at bridging.made.others others_alone).1
      ∙ find_same (λ i. not (fit (held_at_in i.at bridging.made.others))) Unfit
      (model_image model).others
      (All-weaker (λ i. fit (held_at_in i.at bridging.made.others) ≡ fits_at bridging i.at)
      (λ i. not (fit (held_at_in i.at bridging.made.others)) ≡ not (fits_at bridging i.at))
      (λ i e. ap not e) (model_image model).others others_at))
      ∙ sym (find-append Unfit (model_image model).groups (model_image model).others))

-- ---- after a change of what was made

module _ {setting next : Setting} {model after : ModelValue}
    (sound : IsValidUnder setting model) (sound_after : IsValidUnder next after)
    (old : FreshBridging setting model) (new : FreshBridging next after)
    (made : is_made old ≡ true) where
  old_fits : (at : Address) → fits_at old at ≡ true
  old_fits at =
      by (held_of old at) refl
    where
      by : (o : Option (Held Item Entry)) → held_of old at ≡ o → fit o ≡ true
      by None e = refl
      by (Some h) e =
          let found = held_item old at h e in
          sym (ap fit e)
          ∙ ap (fits_at old) (sym found.2)
          ∙ found_is (λ i. fits_at old i.at ≡ true) (is_there at) (items_of model) found.0
          (AllPass-from_list_all (λ i. fits_at old i.at) (items_of model)
          (sym (made_is sound old) ∙ made)) found.1

  -- what stays as it is fits
  pub stays_fits : (at : Address) → StaysAt old new at → fits_at new at ≡ true
  stays_fits at h = ap fit (sym (holds_alike old new at h)) ∙ old_fits at

  pub untouched_fits : (at : Address) → ¬ (IsTouched old new at) → fits_at new at ≡ true
  untouched_fits at n = stays_fits at (untouched_stays old new at n)

  -- so the first that doesn't fit is touched
  pub first_unfit_touched : (at : Address) → unfit_at new ≡ Some at → ¬ (¬ (IsTouched old new at))
  first_unfit_touched at e n =
      by (find (λ i. not (fits_at new i.at)) (items_of after)) refl (sym (unfit_is sound_after new) ∙ e)
    where
      by : (o : Option Item) → find (λ i. not (fits_at new i.at)) (items_of after) ≡ o
          → option_map (λ i. i.at) o ≡ Some at → ⊥
      by None f g = none-some at g
      by (Some i) f g =
          let here : i.at ≡ at = same_Some i.at at g in
          true≢false (sym (found_passes (λ i. not (fits_at new i.at)) (items_of after) i f)
          ∙ ap not (ap (fits_at new) here ∙ untouched_fits at n))

  -- where each item that doesn't fit is among some in the order of all, it is the first of those
  pub first_among : (todo : List Item)
      → find (λ i. not (fits_at new i.at)) todo ≡ find (λ i. not (fits_at new i.at)) (items_of after)
      → unfit_at new ≡ option_map (λ i. i.at) (find (λ i. not (fits_at new i.at)) todo)
  first_among todo e = unfit_is sound_after new ∙ ap (option_map (λ i. i.at)) (sym e)

  -- as where all others are left out that stay as they are
  pub first_of_kept : (keep : Item → Bool)
      → All (λ i. keep i ≡ false → StaysAt old new i.at) (items_of after)
      → unfit_at new
      ≡ option_map (λ i. i.at) (find (λ i. not (fits_at new i.at)) (filter keep (items_of after)))
  first_of_kept keep h =
      first_among (filter keep (items_of after)) (left (items_of after) h)
    where
      left : (items : List Item) → All (λ i. keep i ≡ false → StaysAt old new i.at) items
          → find (λ i. not (fits_at new i.at)) (filter keep items)
          ≡ find (λ i. not (fits_at new i.at)) items
      left [] h = refl
      left (x ∷ xs) h =
          step (keep x) refl
          (left xs (All-tail (λ i. keep i ≡ false → StaysAt old new i.at) x xs h))
        where
          step : (b : Bool) → keep x ≡ b
              → find (λ i. not (fits_at new i.at)) (filter keep xs)
              ≡ find (λ i. not (fits_at new i.at)) xs
              → find (λ i. not (fits_at new i.at)) (cond b (x ∷ filter keep xs) (filter keep xs))
              ≡ cond (not (fits_at new x.at)) (Some x) (find (λ i. not (fits_at new i.at)) xs)
          step true e rest = ap (cond (not (fits_at new x.at)) (Some x)) rest
          step false e rest =
              rest ∙ sym (ap (λ b. cond (not b) (Some x) (find (λ i. not (fits_at new i.at)) xs))
              (stays_fits x.at
              (All-head (λ i. keep i ≡ false → StaysAt old new i.at) x xs h e)))
