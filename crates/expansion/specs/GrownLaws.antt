-- Every bridging of an item holds what is worked out to any depth that is enough, so all of them
-- hold the same.
use Rattle.std.specs.Prelude.{◌≡◌, ℕ, zero, suc, ◌+◌, ◌≤◌, List, [], Option, Some, refl}
use Rattle.std.proofs.Common.{sym, ap, ◌∙◌, arith}
use Rattle.std.specs.Option.{option_and_then}
use Rattle.std.proofs.lemmas.Option.{same_Some}
use Rattle.expansion.specs.Rules.{Rules}
use Rattle.expansion.specs.Bridged.{Bridged, EachBridged, EachBridgedIn, by, each, each_in, natively, none, none_in}
use Rattle.expansion.specs.Read.{fits, fits_each, fits_in, leaves, leaves_in, leaves_of_each, nodes, nodes_in, nodes_of_each}
use Rattle.expansion.specs.Grown.{Held, grown, grown_by, grown_each, grown_in, joined, node_held, put_held}

-- two that are there, put together
paired : {A B C : Type 0} (make : A → B → C) (a : Option A) (b : A → Option B) (x : A) (y : B)
    → a ≡ Some x → b x ≡ Some y
    → option_and_then (λ u. option_and_then (λ v. Some (make u v)) (b u)) a ≡ Some (make x y)
paired make a b x y e f = ap (option_and_then (λ u. option_and_then (λ v. Some (make u v)) (b u))) e
    ∙ ap (option_and_then (λ v. Some (make x v))) f

module _ {Item Entry : Type 0} {rules : Rules Item Entry} where
  -- what a bridging holds
  abbrev pub held : {item : Item} {entries : List Entry} → Bridged rules item entries
      → Held Item Entry
  held {entries = entries} tree =
      record { entries = entries; leaves = leaves tree; nodes = nodes tree; fits = fits tree }

  abbrev pub held_each : {items : List Item} {entries : List Entry}
      → EachBridged rules items entries → Held Item Entry
  held_each {entries = entries} trees =
      record {
        entries = entries;
        leaves = leaves_of_each trees;
        nodes = nodes_of_each trees;
        fits = fits_each trees;
      }

  abbrev pub held_in : {inner : List Entry} {items : List Item} → EachBridgedIn rules inner items
      → Held Item Entry
  held_in trees = record {
    entries = [];
    leaves = leaves_in trees;
    nodes = nodes_in trees;
    fits = fits_in trees;
  }

  unfoldable mutual
    -- how many items stand above one another
    pub depth : {item : Item} {entries : List Entry} → Bridged rules item entries → ℕ
    depth (natively c) = 1
    depth (by c groups others) = suc (depth_each groups + depth_in others)

    pub depth_each : {items : List Item} {entries : List Entry} → EachBridged rules items entries
        → ℕ
    depth_each none = 0
    depth_each (each first rest) = depth first + depth_each rest

    pub depth_in : {inner : List Entry} {items : List Item} → EachBridgedIn rules inner items → ℕ
    depth_in none_in = 0
    depth_in (each_in first rest) = depth first + depth_in rest

  mutual
    unfolding leaves nodes fits grown grown_by grown_each grown_in depth

    -- what is worked out to a depth that is enough is what the bridging holds
    pub grown_is : (n : ℕ) {item : Item} {entries : List Entry} (tree : Bridged rules item entries)
        → depth tree ≤ n → grown rules n item ≡ Some (held tree)
    grown_is zero (natively c) h = absurd (omega (arith, h))
    grown_is zero (by c groups others) h = absurd (omega (arith, h))
    grown_is (suc n) (natively {item} c) h = ap (λ k. grown_by rules (grown rules n) k item) c
    grown_is (suc n) (by {item} {edge} {inner} c groups others) h =
        ap (λ k. grown_by rules (grown rules n) k item) c
        ∙ paired (node_held rules edge item) _ (λ g. grown_in rules (grown rules n) g.entries
        (rules.image edge item).others) (held_each groups) (held_in others)
        (grown_each_is n groups (omega (arith, h))) (grown_in_is n others (omega (arith, h)))

    pub grown_each_is : (n : ℕ) {items : List Item} {entries : List Entry}
        (trees : EachBridged rules items entries)
        → depth_each trees ≤ n → grown_each rules (grown rules n) items ≡ Some (held_each trees)
    grown_each_is n none h = refl
    grown_each_is n (each {item} {items} first rest) h =
        paired joined _ (λ _. grown_each rules (grown rules n) items) (held first) (held_each rest)
        (grown_is n first (omega (arith, h))) (grown_each_is n rest (omega (arith, h)))

    pub grown_in_is : (n : ℕ) {inner : List Entry} {items : List Item}
        (trees : EachBridgedIn rules inner items)
        → depth_in trees ≤ n → grown_in rules (grown rules n) inner items ≡ Some (held_in trees)
    grown_in_is n none_in h = refl
    grown_in_is n (each_in {inner} {item} {items} first rest) h =
        paired (λ f r. joined (put_held rules inner item f) r) _
        (λ _. grown_in rules (grown rules n) inner items) (held first) (held_in rest)
        (grown_is n first (omega (arith, h))) (grown_in_is n rest (omega (arith, h)))

  -- ---- one bridging at most

  pub held_once : {item : Item} {es fs : List Entry} (tree : Bridged rules item es)
      (other : Bridged rules item fs)
      → held tree ≡ held other
  held_once tree other =
      same_Some _ _ (sym (grown_is (depth tree + depth other) tree (omega arith))
      ∙ grown_is (depth tree + depth other) other (omega arith))

  pub held_each_once : {items : List Item} {es fs : List Entry} (trees : EachBridged rules items es)
      (others : EachBridged rules items fs) → held_each trees ≡ held_each others
  held_each_once trees others =
      same_Some _ _ (sym (grown_each_is (depth_each trees + depth_each others) trees (omega arith))
      ∙ grown_each_is (depth_each trees + depth_each others) others (omega arith))
