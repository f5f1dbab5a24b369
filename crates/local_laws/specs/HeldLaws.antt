-- What a bridging holds of the item at an address.
use Rattle.std.specs.Prelude.{◌≡◌, Bool, true, false, cond, List, find, Option, Some, None, refl}
use Rattle.std.proofs.Common.{sym, subst}
use Rattle.std.proofs.lemmas.Option.{none-some, same_Some}
use Rattle.aff_core.specs.Address.{Address, address_eq-Decides}
use Rattle.bridge_graph.specs.declared.Choice.{Choice}
use Rattle.expansion.specs.Bridged.{Bridged, EachBridged, EachBridgedIn, by, each, each_in, natively, none, none_in}
use Rattle.expansion.specs.Grown.{Held, put_held}
use Rattle.expansion.specs.GrownLaws.{held}
use Rattle.expansion.specs.Kept.{KeepsChoices, KeepsEach, KeepsIn}
use Rattle.expansion.specs.Rules.{Rules}
use Rattle.item_core.specs.declared.item.Item.{Item}
use Rattle.fresh_bridging.specs.Entries.{Entry}
use Rattle.fresh_bridging.specs.Touched.{KeepsAtEach, KeepsAtIn}
use Rattle.local_laws.specs.Held.{held_at_each, held_at_in, is_there}
use Rattle.local_laws.specs.SettledLaws.{IsStable, settled_choice}

-- ---- choices that can't fail to agree do

module _ {rules : Rules Item Entry} (choice : Item → Choice) where
  mutual
    unfolding KeepsChoices

    stand_keeps : {item : Item} {entries : List Entry} (tree : Bridged rules item entries)
        → IsStable (KeepsChoices choice tree)
    stand_keeps (natively {item} c) h = settled_choice (choice item) _ h
    stand_keeps (by {item} {edge} c groups others) h = (
      settled_choice (choice item) _ (λ n. h (λ k. n k.0)),
      stand_keeps_each groups (λ n. h (λ k. n k.1)),
      stand_keeps_in others (λ n. h (λ k. n k.2)),
    )

    stand_keeps_each : {items : List Item} {entries : List Entry}
        (trees : EachBridged rules items entries) → IsStable (KeepsEach choice trees)
    stand_keeps_each none h = tt
    stand_keeps_each (each first rest) h = (
      stand_keeps first (λ n. h (λ k. n k.0)),
      stand_keeps_each rest (λ n. h (λ k. n k.1)),
    )

    stand_keeps_in : {inner : List Entry} {items : List Item}
        (trees : EachBridgedIn rules inner items) → IsStable (KeepsIn choice trees)
    stand_keeps_in none_in h = tt
    stand_keeps_in (each_in first rest) h = (
      stand_keeps first (λ n. h (λ k. n k.0)),
      stand_keeps_in rest (λ n. h (λ k. n k.1)),
    )

  module _ (at : Address) where
    pub stand_at_each : {items : List Item} {entries : List Entry}
        (trees : EachBridged rules items entries) → IsStable (KeepsAtEach choice at trees)
    unfolding KeepsAtEach
    stand_at_each none h = tt
    stand_at_each (each first rest) h = (
      λ e. stand_keeps first (λ n. h (λ k. n (k.0 e))),
      stand_at_each rest (λ n. h (λ k. n k.1)),
    )

    pub stand_at_in : {inner : List Entry} {items : List Item}
        (trees : EachBridgedIn rules inner items) → IsStable (KeepsAtIn choice at trees)
    unfolding KeepsAtIn
    stand_at_in none_in h = tt
    stand_at_in (each_in first rest) h = (
      λ e. stand_keeps first (λ n. h (λ k. n (k.0 e))),
      stand_at_in rest (λ n. h (λ k. n k.1)),
    )

-- ---- the tree of the item at an address

module _ (rules : Rules Item Entry) (choice : Item → Choice) where
  -- a tree of a child group, with other choices that agree with it
  pub record IsHeldTree (item : Item) (found : Option (Held Item Entry)) : Type 0 where
    pub entries : List Entry
    pub tree : Bridged rules item entries
    pub is : found ≡ Some (held tree)
    pub keeps : KeepsChoices choice tree

  -- a tree of a further child
  pub record IsHeldIn (inner : List Entry) (item : Item)
      (found : Option (Held Item Entry)) : Type 0 where
    pub entries : List Entry
    pub tree : Bridged rules (rules.put_in inner item) entries
    pub is : found ≡ Some (put_held rules inner item (held tree))
    pub keeps : KeepsChoices choice tree

module _ {rules : Rules Item Entry} (choice : Item → Choice) where
  module _ (at : Address) where
    pub held_each_at : {items : List Item} {entries : List Entry}
        (trees : EachBridged rules items entries) → KeepsAtEach choice at trees → (item : Item)
        → find (is_there at) items ≡ Some item
        → IsHeldTree rules choice item (held_at_each at trees)
    unfolding held_at_each KeepsAtEach
    held_each_at none k item f = absurd (none-some item f)
    held_each_at (each {item} {items} first rest) k other f =
        step (is_there at item) refl f (λ g. held_each_at rest k.1 other g)
      where
        step : (b : Bool) → is_there at item ≡ b
            → cond b (Some item) (find (is_there at) items) ≡ Some other
            → (find (is_there at) items ≡ Some other → IsHeldTree rules choice other (held_at_each at rest))
            → IsHeldTree rules choice other (cond b (Some (held first)) (held_at_each at rest))
        step true e f later =
            subst (λ i. IsHeldTree rules choice i (Some (held first))) (same_Some item other f)
            (record {
              entries = _;
              tree = first;
              is = refl;
              keeps = k.0 ((address_eq-Decides item.at at).0 e);
            })
        step false e f later = later f

    pub held_in_at : {inner : List Entry} {items : List Item}
        (trees : EachBridgedIn rules inner items) → KeepsAtIn choice at trees → (item : Item)
        → find (is_there at) items ≡ Some item → IsHeldIn rules choice inner item (held_at_in at trees)
    unfolding held_at_in KeepsAtIn
    held_in_at none_in k item f = absurd (none-some item f)
    held_in_at (each_in {inner} {item} {items} first rest) k other f =
        step (is_there at item) refl f (λ g. held_in_at rest k.1 other g)
      where
        step : (b : Bool) → is_there at item ≡ b
            → cond b (Some item) (find (is_there at) items) ≡ Some other
            → (find (is_there at) items ≡ Some other → IsHeldIn rules choice inner other (held_at_in at rest))
            → IsHeldIn rules choice inner other
            (cond b (Some (put_held rules inner item (held first))) (held_at_in at rest))
        step true e f later =
            subst (λ i. IsHeldIn rules choice inner i (Some (put_held rules inner item (held first))))
            (same_Some item other f)
            (record {
              entries = _;
              tree = first;
              is = refl;
              keeps = k.0 ((address_eq-Decides item.at at).0 e);
            })
        step false e f later = later f

module _ {rules : Rules Item Entry} (at : Address) where
  pub none_at_each : {items : List Item} {entries : List Entry}
      (trees : EachBridged rules items entries)
      → find (is_there at) items ≡ None → held_at_each at trees ≡ None
  unfolding held_at_each
  none_at_each none f = refl
  none_at_each (each {item} {items} first rest) f =
      step (is_there at item) refl f (λ g. none_at_each rest g)
    where
      step : (b : Bool) → is_there at item ≡ b
          → cond b (Some item) (find (is_there at) items) ≡ None
          → (find (is_there at) items ≡ None → held_at_each at rest ≡ None)
          → cond b (Some (held first)) (held_at_each at rest) ≡ None
      step true e f later = absurd (none-some item (sym f))
      step false e f later = later f

  pub none_at_in : {inner : List Entry} {items : List Item}
      (trees : EachBridgedIn rules inner items)
      → find (is_there at) items ≡ None → held_at_in at trees ≡ None
  unfolding held_at_in
  none_at_in none_in f = refl
  none_at_in (each_in {inner} {item} {items} first rest) f =
      step (is_there at item) refl f (λ g. none_at_in rest g)
    where
      step : (b : Bool) → is_there at item ≡ b
          → cond b (Some item) (find (is_there at) items) ≡ None
          → (find (is_there at) items ≡ None → held_at_in at rest ≡ None)
          → cond b (Some (put_held rules inner item (held first))) (held_at_in at rest) ≡ None
      step true e f later = absurd (none-some item (sym f))
      step false e f later = later f

-- ---- a tree's own choices agree with it

module _ {rules : Rules Item Entry} where
  mutual
    unfolding KeepsChoices

    keeps_own : {item : Item} {entries : List Entry} (tree : Bridged rules item entries)
        → KeepsChoices rules.choice tree
    keeps_own (natively c) = c
    keeps_own (by c groups others) = (c, keeps_own_groups groups, keeps_own_others others)

    keeps_own_groups : {items : List Item} {entries : List Entry}
        (trees : EachBridged rules items entries) → KeepsEach rules.choice trees
    keeps_own_groups none = tt
    keeps_own_groups (each first rest) = (keeps_own first, keeps_own_groups rest)

    keeps_own_others : {inner : List Entry} {items : List Item}
        (trees : EachBridgedIn rules inner items) → KeepsIn rules.choice trees
    keeps_own_others none_in = tt
    keeps_own_others (each_in first rest) = (keeps_own first, keeps_own_others rest)

  module _ (at : Address) where
    pub keeps_own_each : {items : List Item} {entries : List Entry}
        (trees : EachBridged rules items entries) → KeepsAtEach rules.choice at trees
    unfolding KeepsAtEach
    keeps_own_each none = tt
    keeps_own_each (each first rest) = (λ e. keeps_own first, keeps_own_each rest)

    pub keeps_own_in : {inner : List Entry} {items : List Item}
        (trees : EachBridgedIn rules inner items) → KeepsAtIn rules.choice at trees
    unfolding KeepsAtIn
    keeps_own_in none_in = tt
    keeps_own_in (each_in first rest) = (λ e. keeps_own first, keeps_own_in rest)
