-- Items kept one after another beside those that are kept.
use Rattle.std.specs.Prelude.{◌≡◌, ◌≤◌, ◌+◌, Bool, true, false, cond, List, [], ◌∷◌, All, length, map, Some, None, refl}
use Rattle.std.specs.FinMap as finite
use Rattle.std.specs.List.{AllByRecursion, IsDistinct, list_any}
use Rattle.std.proofs.Common.{true≢false, arith, sym, ap, ap₂, subst, ◌∙◌}
use Rattle.std.proofs.lemmas.List.Elements.{All-cons, All-head, All-nil, All-tail}
use Rattle.aff_core.specs.Address.{Address, address_eq, address_eq-Decides, address_total}
use Rattle.aff_core.specs.KeyOrder.{address_order, other_key}
use Rattle.bridge_face.specs.Law.{IsItemFor}
use Rattle.bridge_face.specs.BridgeState.{BridgeState, KeptByAddress, found, given}
use Rattle.bridge_face.specs.declared.kept_item.KeptItem.{KeptItem}
use Rattle.item_core.specs.Edge.{family_eq, family_of}
use Rattle.item_core.specs.declared.family.Family.{Family}
use Rattle.bridge_set.specs.Bridges.{AreKeepable, Bridges, IsAddressFree, at_family, families_of, kept_by}
use Rattle.bridge_set.specs.Turns.{turns_of}
use Rattle.bridge_set.specs.Adding.{with_one, with_each, AreFree}

pub kept_one : (n : KeptItem) (ss : List BridgeState)
    → kept_by (map (at_family (family_of n.edge) (λ s. given s n)) ss)
    ≡ map (with_one n) (kept_by ss)
kept_one n [] = refl
kept_one n (s ∷ ss) =
    ap₂ (λ (k : Family × KeptByAddress) (ks : List (Family × KeptByAddress)). k ∷ ks)
    (by (family_eq (family_of n.edge) s.family)) (kept_one n ss)
  where
    by : (b : Bool)
        → ◌≡◌ {A = Family × KeptByAddress}
        ((cond b (given s n) s).family, (cond b (given s n) s).kept)
        (s.family, cond b (finite.insert s.kept n.item.at n) s.kept)
    by true = refl
    by false = refl

pub with_more : (n : KeptItem) (nodes : List KeptItem) (ks : List (Family × KeptByAddress))
    → map (with_each nodes) (map (with_one n) ks) ≡ map (with_each (n ∷ nodes)) ks
with_more n nodes [] = refl
with_more n nodes (k ∷ ks) =
    ap (λ js. with_each nodes (with_one n k) ∷ js) (with_more n nodes ks)

pub with_nothing : (ks : List (Family × KeptByAddress)) → map (with_each []) ks ≡ ks
with_nothing [] = refl
with_nothing (k ∷ ks) = ap (λ js. k ∷ js) (with_nothing ks)

-- another address stays free
pub free_still : (n : KeptItem) (at : Address) → address_eq at n.item.at ≡ false
    → (ks : List (Family × KeptByAddress))
    → All (λ (k : Family × KeptByAddress). finite.get k.1 at ≡ None) ks
    → All (λ (k : Family × KeptByAddress). finite.get k.1 at ≡ None) (map (with_one n) ks)
free_still n at other [] h = All-nil (λ (k : Family × KeptByAddress). finite.get k.1 at ≡ None)
free_still n at other (k ∷ ks) h =
    All-cons (λ (k : Family × KeptByAddress). finite.get k.1 at ≡ None) (with_one n k) (map (with_one n) ks)
    (by (family_eq (family_of n.edge) k.0)
    (All-head (λ (k : Family × KeptByAddress). finite.get k.1 at ≡ None) k ks h))
    (free_still n at other ks (All-tail (λ (k : Family × KeptByAddress). finite.get k.1 at ≡ None) k ks h))
  where
    by : (b : Bool) → finite.get k.1 at ≡ None
        → finite.get (cond b (finite.insert k.1 n.item.at n) k.1) at ≡ None
    by true e =
        finite.get-insert address_total k.1 n.item.at n at
        ∙ ap (λ b. cond b (Some n) (finite.get k.1 at)) other ∙ e
    by false e = e

pub is_free : (at : Address) (ss : List BridgeState)
    → All (λ (k : Family × KeptByAddress). finite.get k.1 at ≡ None) (kept_by ss)
    → IsAddressFree at ss
is_free at [] h = All-nil (λ (s : BridgeState). found s at ≡ None)
is_free at (s ∷ ss) h =
    All-cons (λ (s : BridgeState). found s at ≡ None) s ss
    (All-head (λ (k : Family × KeptByAddress). finite.get k.1 at ≡ None) (s.family, s.kept) (kept_by ss) h)
    (is_free at ss (All-tail (λ (k : Family × KeptByAddress). finite.get k.1 at ≡ None) (s.family, s.kept)
    (kept_by ss) h))

-- ---- a loop over them

pub record AddedSoFar (start now : Bridges) (all left : List KeptItem) : Type 0 where
  pub families : families_of now.states ≡ families_of start.states
  pub table : now.table ≡ start.table
  pub choices : now.choices ≡ start.choices
  pub kept :
      map (with_each left) (kept_by now.states) ≡ map (with_each all) (kept_by start.states)
  pub nodes : AreKeepable (families_of start.states) left
  pub free : AreFree left (kept_by now.states)
  pub turns : turns_of now.states + length left ≤ turns_of start.states + length all

module _ (start : Bridges) (all : List KeptItem) where
  pub added_start : AreKeepable (families_of start.states) all → AreFree all (kept_by start.states)
      → AddedSoFar start start all all
  added_start nodes free = record {
    families = refl;
    table = refl;
    choices = refl;
    kept = refl;
    nodes = nodes;
    free = free;
    turns = omega arith;
  }

  module _ (now : Bridges) (left rest : List KeptItem) (n : KeptItem) (is : left ≡ n ∷ rest)
      (so_far : AddedSoFar start now all left) where
    abbrev nodes_left : AreKeepable (families_of start.states) (n ∷ rest)
    nodes_left = subst (AreKeepable (families_of start.states)) is so_far.nodes

    pub added_own : list_any (family_eq (family_of n.edge)) (families_of now.states) ≡ true
    added_own =
        ap (list_any (family_eq (family_of n.edge))) so_far.families
        ∙ All-head (λ (n : KeptItem). list_any (family_eq (family_of n.edge))
        (families_of start.states) ≡ true) n rest nodes_left.own

    pub added_suits : IsItemFor n.edge n.item
    added_suits = All-head (λ (n : KeptItem). IsItemFor n.edge n.item) n rest nodes_left.suits

    abbrev free_left : AreFree (n ∷ rest) (kept_by now.states)
    free_left = subst (λ ns. AreFree ns (kept_by now.states)) is so_far.free

    pub added_free : IsAddressFree n.item.at now.states
    added_free = is_free n.item.at now.states
        (All-head (λ (n : KeptItem). All (λ (k : Family × KeptByAddress). finite.get k.1 n.item.at ≡ None)
        (kept_by now.states)) n rest free_left)

-- ---- the next one

turned : (a b : Address) → address_eq a b ≡ false → address_eq b a ≡ false
turned a b f =
    other_key address_order b a
    (λ e. true≢false (sym ((address_eq-Decides a b).1 (sym e)) ∙ f))

later_free : (n : KeptItem) (ks : List (Family × KeptByAddress)) (ms : List KeptItem)
    → AllByRecursion (λ y. address_eq n.item.at y ≡ false)
    (map (λ (e : Address × KeptItem). e.0) (map (λ (m : KeptItem). (m.item.at, m)) ms))
    → AreFree ms ks → AreFree ms (map (with_one n) ks)
later_free n ks [] h free =
    All-nil (λ (m : KeptItem). All (λ (k : Family × KeptByAddress). finite.get k.1 m.item.at ≡ None)
    (map (with_one n) ks))
later_free n ks (m ∷ ms) h free =
    All-cons (λ (m : KeptItem). All (λ (k : Family × KeptByAddress). finite.get k.1 m.item.at ≡ None)
    (map (with_one n) ks)) m ms
    (free_still n m.item.at (turned n.item.at m.item.at h.0) ks
    (All-head (λ (m : KeptItem). All (λ (k : Family × KeptByAddress). finite.get k.1 m.item.at ≡ None) ks) m
    ms free))
    (later_free n ks ms h.1
    (All-tail (λ (m : KeptItem). All (λ (k : Family × KeptByAddress). finite.get k.1 m.item.at ≡ None) ks) m
    ms free))

module _ (start now after : Bridges) (all left rest : List KeptItem) (n : KeptItem)
    (is : left ≡ n ∷ rest) (so_far : AddedSoFar start now all left) where
  keepable : AreKeepable (families_of start.states) (n ∷ rest)
  keepable = subst (AreKeepable (families_of start.states)) is so_far.nodes

  pub added_more :
      after.states ≡ map (at_family (family_of n.edge) (λ s. given s n)) now.states
      → families_of after.states ≡ families_of now.states → after.table ≡ now.table
      → after.choices ≡ now.choices → turns_of after.states ≤ turns_of now.states + 1
      → AddedSoFar start after all rest
  unfolding IsDistinct
  added_more kept families table choices turns =
      let one = ap kept_by kept ∙ kept_one n now.states in
      let short : length left ≡ length (n ∷ rest) = ap length is in
      record {
        families = families ∙ so_far.families;
        table = table ∙ so_far.table;
        choices = choices ∙ so_far.choices;
        kept = ap (map (with_each rest)) one ∙ with_more n rest (kept_by now.states)
            ∙ ap (λ ns. map (with_each ns) (kept_by now.states)) (sym is) ∙ so_far.kept;
        nodes = record {
          own = All-tail (λ (n : KeptItem). list_any (family_eq (family_of n.edge))
              (families_of start.states) ≡ true) n rest keepable.own;
          suits = All-tail (λ (n : KeptItem). IsItemFor n.edge n.item) n rest keepable.suits;
          apart = keepable.apart.1;
        };
        free = subst (AreFree rest) (sym one)
            (later_free n (kept_by now.states) rest keepable.apart.0
            (All-tail (λ (n : KeptItem). All (λ (k : Family × KeptByAddress). finite.get k.1 n.item.at ≡ None)
            (kept_by now.states)) n rest
            (subst (λ ns. AreFree ns (kept_by now.states)) is so_far.free)));
        turns = omega (arith, turns, so_far.turns, short);
      }
