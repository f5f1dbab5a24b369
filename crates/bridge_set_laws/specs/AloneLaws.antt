-- Of bridges that hold the nodes of a bridging one at most keeps something at an address.
use Rattle.std.specs.Prelude.{◌≡◌, ◌⊎◌, ℕ, Bool, true, false, cond, not, ◌||◌, List, [], ◌∷◌, All, Option, Some, None, refl}
use Rattle.std.proofs.Common.{inl, inr, sym, ap, subst, ◌∙◌, true≢false}
use Rattle.std.specs.FinMap as finite
use Rattle.std.specs.List.{list_any}
use Rattle.std.proofs.lemmas.Bool.{not-true}
use Rattle.std.proofs.lemmas.List.Elements.{All-cons, All-head, All-nil, All-tail}
use Rattle.std.proofs.lemmas.List.Kept.{AllPairs-cons}
use Rattle.aff_core.specs.Address.{Address}
use Rattle.bridge_face.specs.BridgeState.{BridgeState, KeptByAddress}
use Rattle.bridge_plan.specs.AddsHeld.{kept_of}
use Rattle.bridge_set.specs.Bridges.{families_of, kept_by, occur_once}
use Rattle.bridge_set.specs.Nodes.{HoldNodes, nodes_by}
use Rattle.fresh_bridging.specs.FreshBridging.{FreshBridging, nodes_of}
use Rattle.fresh_bridging.specs.TableLaws.{and_first, and_second, equal_family}
use Rattle.fresh_bridging.specs.TheRules.{Setting, edge_at}
use Rattle.item_core.specs.Edge.{family_eq, family_of}
use Rattle.item_core.specs.declared.family.Family.{Family}
use Rattle.item_core.specs.declared.item.Item.{Item}
use Rattle.map_laws.specs.PairLaws.{AllPairs-nil}
use Rattle.user_model.specs.Model.{ModelValue}
use Rattle.bridge_set_laws.specs.CountLaws.{IsKeptByOne}
use Rattle.bridge_set_laws.specs.FamilyLaws.{family_kept, family_part}
use Rattle.local_laws.specs.Sound.{IsValidUnder}

-- of two families one at most has a node
one_family : (f g : Family) → family_eq f g ≡ false → (o : Option (ℕ × Item))
    → (family_part f o ≡ None) ⊎ (family_part g o ≡ None)
one_family f g other None = inl refl
one_family f g other (Some n) =
    by (family_eq (family_of (edge_at n.0)) f) (family_eq (family_of (edge_at n.0)) g) refl refl
  where
    by : (b c : Bool) → family_eq (family_of (edge_at n.0)) f ≡ b
        → family_eq (family_of (edge_at n.0)) g ≡ c
        → (cond b (Some (kept_of n)) None ≡ None) ⊎ (cond c (Some (kept_of n)) None ≡ None)
    by false c e k = inl refl
    by true false e k = inr refl
    by true true e k =
        absurd (true≢false (sym (subst (λ h. family_eq h g ≡ true)
        (equal_family (family_of (edge_at n.0)) f e) k) ∙ other))

or_first : (a b : Bool) → (a || b) ≡ false → a ≡ false
or_first true b h = h
or_first false b h = refl

or_second : (a b : Bool) → (a || b) ≡ false → b ≡ false
or_second true b h = absurd (true≢false h)
or_second false b h = h

module _ {setting : Setting} {model : ModelValue} (sound : IsValidUnder setting model)
    (bridging : FreshBridging setting model) (q : Address) where
  Held : BridgeState → Type 0
  Held s = s.kept ≡ nodes_by bridging s.family

  Either : Family × KeptByAddress → Family × KeptByAddress → Type 0
  Either k l = (finite.get k.1 q ≡ None) ⊎ (finite.get l.1 q ≡ None)

  gets : (s : BridgeState) → s.kept ≡ nodes_by bridging s.family
      → finite.get s.kept q ≡ family_part s.family (finite.get (nodes_of bridging) q)
  gets s h = ap (λ k. finite.get k q) h ∙ family_kept sound bridging s.family q

  two : (s t : BridgeState) → s.kept ≡ nodes_by bridging s.family
      → t.kept ≡ nodes_by bridging t.family
      → family_eq s.family t.family ≡ false
      → (finite.get s.kept q ≡ None) ⊎ (finite.get t.kept q ≡ None)
  two s t h k other = by (one_family s.family t.family other (finite.get (nodes_of bridging) q))
    where
      by : (family_part s.family (finite.get (nodes_of bridging) q) ≡ None)
          ⊎ (family_part t.family (finite.get (nodes_of bridging) q) ≡ None)
          → (finite.get s.kept q ≡ None) ⊎ (finite.get t.kept q ≡ None)
      by (inl e) = inl (gets s h ∙ e)
      by (inr e) = inr (gets t k ∙ e)

  beside : (s : BridgeState) → s.kept ≡ nodes_by bridging s.family → (ss : List BridgeState)
      → HoldNodes bridging ss → list_any (family_eq s.family) (families_of ss) ≡ false
      → All (λ (l : Family × KeptByAddress). (finite.get s.kept q ≡ None) ⊎ (finite.get l.1 q ≡ None))
      (kept_by ss)
  beside s h [] k other =
      All-nil (λ (l : Family × KeptByAddress). (finite.get s.kept q ≡ None) ⊎ (finite.get l.1 q ≡ None))
  beside s h (t ∷ ss) k other =
      All-cons (λ (l : Family × KeptByAddress). (finite.get s.kept q ≡ None) ⊎ (finite.get l.1 q ≡ None))
      (t.family, t.kept) (kept_by ss)
      (two s t h (All-head (λ (s : BridgeState). s.kept ≡ nodes_by bridging s.family) t ss k)
      (or_first (family_eq s.family t.family) (list_any (family_eq s.family) (families_of ss)) other))
      (beside s h ss (All-tail (λ (s : BridgeState). s.kept ≡ nodes_by bridging s.family) t ss k)
      (or_second (family_eq s.family t.family) (list_any (family_eq s.family) (families_of ss))
      other))

  pub all_alone : (ss : List BridgeState) → HoldNodes bridging ss
      → occur_once (families_of ss) ≡ true → IsKeptByOne q (kept_by ss)
  all_alone [] h once =
      AllPairs-nil (λ (k l : Family × KeptByAddress). (finite.get k.1 q ≡ None) ⊎ (finite.get l.1 q ≡ None))
  all_alone (s ∷ ss) h once =
      AllPairs-cons
      (λ (k l : Family × KeptByAddress). (finite.get k.1 q ≡ None) ⊎ (finite.get l.1 q ≡ None))
      (s.family, s.kept) (kept_by ss)
      (beside s (All-head (λ (s : BridgeState). s.kept ≡ nodes_by bridging s.family) s ss h) ss
      (All-tail (λ (s : BridgeState). s.kept ≡ nodes_by bridging s.family) s ss h)
      (not-true (list_any (family_eq s.family) (families_of ss))
      (and_first (not (list_any (family_eq s.family) (families_of ss)))
      (occur_once (families_of ss)) once)))
      (all_alone ss (All-tail (λ (s : BridgeState). s.kept ≡ nodes_by bridging s.family) s ss h)
      (and_second (not (list_any (family_eq s.family) (families_of ss)))
      (occur_once (families_of ss)) once))
