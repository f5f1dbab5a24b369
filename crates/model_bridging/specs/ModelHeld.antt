-- A user's model, item by item: what its fresh bridging holds, and the first item that doesn't fit.
use Rattle.std.specs.Prelude.{◌≡◌, ℕ, Bool, true, false, ◌&&◌, not, cond, find, List, All, Option, Some, if◌then◌else◌, refl}
use Rattle.std.proofs.Common.{ap, ◌∙◌}
use Rattle.std.proofs.lemmas.List.Elements.{All-head, All-tail}
use Rattle.bridge_graph.specs.declared.Choice.{Choice}
use Rattle.expansion.specs.Bridged.{EachBridged, EachBridgedIn, each, each_in, none, none_in}
use Rattle.expansion.specs.Grown.{Held}
use Rattle.expansion.specs.GrownLaws.{held_once}
use Rattle.expansion.specs.Read.{fits, unfit_each, unfit_in}
use Rattle.item_core.specs.declared.item.Item.{Item}
use Rattle.fresh_bridging.specs.Entries.{Entry, put_in, put_in_fits}
use Rattle.fresh_bridging.specs.TheRules.{rules_by}
use Rattle.bridge_plan.specs.Trees.{within_bridged}
use Rattle.bridge_plan.specs.Worked.{IsItemWithinLevels, worked}

module _ (choice : ℕ → Choice) (n : ℕ) where
  abbrev pub item_fits : Item → Bool
  item_fits item = (worked choice n item).fits

  -- the first of the items that doesn't fit
  abbrev pub unfit : List Item → Option Item
  unfit items = find (λ item. not (item_fits item)) items

  -- the first that doesn't fit as it stands with the expressions put in
  abbrev pub child_fits : List Entry → Item → Bool
  child_fits inner item = put_in_fits inner item && item_fits (put_in inner item)

  abbrev pub unfit_put : List Entry → List Item → Option Item
  unfit_put inner items = find (λ item. not (child_fits inner item)) items

  either : (a b : Bool) (item : Item) (x y : Option Item) → a ≡ b → x ≡ y
      → (if a then x else Some item) ≡ cond (not b) (Some item) y
  either true true item x y e h = h
  either true false item x y e h = cc
  either false true item x y e h = cc
  either false false item x y e h = refl

  -- so of any bridgings of them
  pub unfit_each_is : {items : List Item} {entries : List Entry}
      (trees : EachBridged (rules_by choice) items entries) → All (IsItemWithinLevels choice n) items
      → unfit_each trees ≡ unfit items
  unfolding unfit_each
  unfit_each_is none all = refl
  unfit_each_is (each {item} {items} first rest) all =
      let made = within_bridged choice n item (All-head (IsItemWithinLevels choice n) item items all) in
      either (fits first) (item_fits item) item (unfit_each rest) (unfit items)
      (ap (λ (h : Held Item Entry). h.fits) (held_once first made.tree ∙ made.holds))
      (unfit_each_is rest (All-tail (IsItemWithinLevels choice n) item items all))

  pub unfit_in_is : {inner : List Entry} {items : List Item}
      (trees : EachBridgedIn (rules_by choice) inner items)
      → All (λ item. IsItemWithinLevels choice n (put_in inner item)) items
      → unfit_in trees ≡ unfit_put inner items
  unfolding unfit_in
  unfit_in_is {inner} none_in all = refl
  unfit_in_is {inner} (each_in {item = item} {items = items} first rest) all =
      let Within : Item → Type 0 = λ i. IsItemWithinLevels choice n (put_in inner i) in
      let made = within_bridged choice n (put_in inner item) (All-head Within item items all) in
      either (put_in_fits inner item && fits first) (child_fits inner item) item (unfit_in rest)
      (unfit_put inner items)
      (ap (λ b. put_in_fits inner item && b)
      (ap (λ (h : Held Item Entry). h.fits) (held_once first made.tree ∙ made.holds)))
      (unfit_in_is rest (All-tail Within item items all))
