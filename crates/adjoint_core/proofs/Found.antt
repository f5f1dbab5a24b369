-- What bridges keep at an address, where each keeps the nodes of its family.
use Rattle.std.specs.Prelude.{◌≡◌, zero, suc, Bool, true, false, ◌||◌, cond, List, [], ◌∷◌, All, Contains, Some, None, filter, map, refl}
use Rattle.std.specs.FinMap as finite
use Rattle.std.specs.FinMap.Entries.{find}
use Rattle.std.specs.List.{list_any}
use Rattle.std.specs.Option.{option_or}
use Rattle.std.proofs.Common.{arith, ap, subst, sym, ◌∙◌, true≢false}
use Rattle.std.proofs.lemmas.List.Elements.{All-head, All-tail}
use Rattle.aff_core.specs.Address.{Address, address_cmp, address_eq-Decides, address_total}
use Rattle.aff_core.specs.KeyOrder.{address_order, other_key}
use Rattle.bridge_set.specs.Bridges.{families_of, kept_among}
use Rattle.bridge_face.specs.BridgeState.{BridgeState, found}
use Rattle.bridge_face.specs.declared.kept_item.KeptItem.{KeptItem}
use Rattle.item_core.specs.Edge.{family_eq, family_of}
use Rattle.address_laws.specs.Apart.{Avoids, Distinct}
use Rattle.adjoint_core.specs.Walk.{kept_at}

abbrev at_of : KeptItem → Address
at_of n = n.item.at

abbrev entry_of : KeptItem → Address × KeptItem
entry_of n = (n.item.at, n)

-- ---- in a list of nodes

module _ (p : KeptItem → Bool) where
  avoided_first : (v : Address) (n : KeptItem) (nodes : List KeptItem) → ¬ (n.item.at ≡ v)
      → find address_cmp v (map entry_of (filter p nodes)) ≡ None → (b : Bool)
      → find address_cmp v (map entry_of (cond b (n ∷ filter p nodes) (filter p nodes))) ≡ None
  avoided_first v n nodes h later true =
      ap (λ b. cond b (Some n) (find address_cmp v (map entry_of (filter p nodes))))
      (other_key address_order v n.item.at (λ e. h (sym e)))
      ∙ later
  avoided_first v n nodes h later false = later

  find_avoided : (v : Address) (nodes : List KeptItem) → Avoids (map at_of nodes) v
      → find address_cmp v (map entry_of (filter p nodes)) ≡ None
  find_avoided v [] h = refl
  find_avoided v (n ∷ nodes) h =
      avoided_first v n nodes (All-head (λ k. ¬ (k ≡ v)) n.item.at (map at_of nodes) h)
      (find_avoided v nodes (All-tail (λ k. ¬ (k ≡ v)) n.item.at (map at_of nodes) h)) (p n)

  -- the address isn't one of the later ones
  apart_later : (nodes : List KeptItem) (a : Address) (k : KeptItem) → Avoids (map at_of nodes) a
      → Contains nodes k → ¬ (a ≡ k.item.at)
  apart_later [] a k h c = absurd (omega (arith, c.1))
  apart_later (n ∷ nodes) a k h (zero, inside, is) =
      λ e. All-head (λ u. ¬ (u ≡ a)) n.item.at (map at_of nodes) h (ap at_of is ∙ sym e)
  apart_later (n ∷ nodes) a k h (suc i, inside, is) =
      apart_later nodes a k (All-tail (λ u. ¬ (u ≡ a)) n.item.at (map at_of nodes) h)
      (i, omega (arith, inside), is)

  there_first : (n k : KeptItem) (nodes : List KeptItem) → n ≡ k
      → find address_cmp k.item.at (map entry_of (filter p nodes)) ≡ None → (b : Bool) → p n ≡ b
      → find address_cmp k.item.at (map entry_of (cond b (n ∷ filter p nodes) (filter p nodes)))
      ≡ cond (p k) (Some k) None
  there_first n k nodes is none true e =
      ap (λ b. cond b (Some n) (find address_cmp k.item.at (map entry_of (filter p nodes))))
      ((address_eq-Decides k.item.at n.item.at).1 (ap at_of (sym is)))
      ∙ ap Some is ∙ sym (ap (λ b. cond b (Some k) None) (sym (ap p is) ∙ e))
  there_first n k nodes is none false e =
      none ∙ sym (ap (λ b. cond b (Some k) None) (sym (ap p is) ∙ e))

  there_later : (n k : KeptItem) (nodes : List KeptItem) → ¬ (n.item.at ≡ k.item.at)
      → find address_cmp k.item.at (map entry_of (filter p nodes)) ≡ cond (p k) (Some k) None
      → (b : Bool)
      → find address_cmp k.item.at (map entry_of (cond b (n ∷ filter p nodes) (filter p nodes)))
      ≡ cond (p k) (Some k) None
  there_later n k nodes h later true =
      ap (λ b. cond b (Some n) (find address_cmp k.item.at (map entry_of (filter p nodes))))
      (other_key address_order k.item.at n.item.at (λ e. h (sym e)))
      ∙ later
  there_later n k nodes h later false = later

  find_there : (nodes : List KeptItem) (k : KeptItem) → Distinct (map at_of nodes)
      → Contains nodes k
      → find address_cmp k.item.at (map entry_of (filter p nodes)) ≡ cond (p k) (Some k) None
  find_there [] k d c = absurd (omega (arith, c.1))
  find_there (n ∷ nodes) k d (zero, inside, is) =
      there_first n k nodes is
      (subst (λ (m : KeptItem). find address_cmp m.item.at (map entry_of (filter p nodes)) ≡ None)
      is (find_avoided n.item.at nodes d.0)) (p n) refl
  find_there (n ∷ nodes) k d (suc i, inside, is) =
      there_later n k nodes (apart_later nodes n.item.at k d.0 (i, omega (arith, inside), is))
      (find_there nodes k d.1 (i, omega (arith, inside), is)) (p n)

-- ---- in bridges

abbrev KeepsIts : List KeptItem → BridgeState → Type 0
KeepsIts nodes bridge = bridge.kept ≡ kept_among nodes bridge.family

found_by : (nodes : List KeptItem) (bridge : BridgeState) (v : Address) → KeepsIts nodes bridge
    → found bridge v
    ≡ find address_cmp v
    (map entry_of (filter (λ n. family_eq (family_of n.edge) bridge.family) nodes))
unfolding kept_among
found_by nodes bridge v h =
    ap (λ m. finite.get m v) h
    ∙ finite.get-from_entries address_total
    (map entry_of (filter (λ n. family_eq (family_of n.edge) bridge.family) nodes)) v

-- at an address at which no node stands nothing is kept
pub none_kept : (nodes : List KeptItem) (bridges : List BridgeState) (v : Address)
    → All (KeepsIts nodes) bridges → Avoids (map at_of nodes) v → kept_at bridges v ≡ None
unfolding kept_at
none_kept nodes [] v h n = refl
none_kept nodes (bridge ∷ bridges) v h n =
    ap (λ o. option_or o (kept_at bridges v))
    (found_by nodes bridge v (All-head (KeepsIts nodes) bridge bridges h)
    ∙ find_avoided (λ n. family_eq (family_of n.edge) bridge.family) v nodes n)
    ∙ none_kept nodes bridges v (All-tail (KeepsIts nodes) bridge bridges h) n

-- a node is kept at its address, where there is a bridge of its family
pub node_kept : (nodes : List KeptItem) (bridges : List BridgeState) (k : KeptItem)
    → All (KeepsIts nodes) bridges → Distinct (map at_of nodes) → Contains nodes k
    → list_any (family_eq (family_of k.edge)) (families_of bridges) ≡ true
    → kept_at bridges k.item.at ≡ Some k
unfolding kept_at
node_kept nodes [] k h d c own = absurd (true≢false (sym own))
node_kept nodes (bridge ∷ bridges) k h d c own =
    ap (λ o. option_or o (kept_at bridges k.item.at))
    (found_by nodes bridge k.item.at (All-head (KeepsIts nodes) bridge bridges h)
    ∙ find_there (λ n. family_eq (family_of n.edge) bridge.family) nodes k d c)
    ∙ by (family_eq (family_of k.edge) bridge.family) own
    (λ later. node_kept nodes bridges k (All-tail (KeepsIts nodes) bridge bridges h) d c later)
  where
    by : (b : Bool) → (b || list_any (family_eq (family_of k.edge)) (families_of bridges)) ≡ true
        → (list_any (family_eq (family_of k.edge)) (families_of bridges) ≡ true
        → kept_at bridges k.item.at ≡ Some k)
        → option_or (cond b (Some k) None) (kept_at bridges k.item.at) ≡ Some k
    by true e later = refl
    by false e later = later e
