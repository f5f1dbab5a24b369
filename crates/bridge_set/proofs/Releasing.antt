-- A bridge releases what it keeps of items, one address after another, with a turn for each.
use Rattle.std.specs.Prelude.{◌≡◌, ◌≤◌, ◌<◌, ◌+◌, ℕ, Bool, true, false, cond, ◌||◌, List, [], ◌∷◌, ◌++◌, find, Option, Some, None, refl}
use Rattle.std.specs.FinMap as finite
use Rattle.std.specs.List.{list_any}
use Rattle.std.proofs.Common.{arith, sym, ap, subst, ◌∙◌, true≢false}
use Rattle.std.proofs.lemmas.List.Folds.{list_any-append}
use Rattle.std.proofs.lemmas.Option.{none-some, same_Some}
use Rattle.aff_core.specs.Address.{Address, address_eq, address_total, exact_addresses}
use Rattle.aff_core.specs.KeyOrder.{address_order, other_key, same_key}
use Rattle.bridge_face.specs.ItemAddresses.{is_of}
use Rattle.bridge_face.specs.BridgeState.{BridgeState, KeptByAddress, gone, one_more}
use Rattle.bridge_face.specs.declared.kept_item.KeptItem.{KeptItem}
use Rattle.bridge_set.specs.Letting.{IsReleased, is_of_any, without_items}
use Rattle.bridge_set.specs.LettingLaws.{get_without_items, len_removed}
use Rattle.map_laws.specs.OptionLaws.{none_of}

same_kept : (m n : KeptByAddress) → ((v : Address) → finite.get m v ≡ finite.get n v) → m ≡ n
same_kept m n same = finite.same_map address_total exact_addresses m n same

-- ---- items one after another

pub released_none : (s : BridgeState) → IsReleased [] s s
released_none s = record {
  family = refl;
  kept = same_kept s.kept (without_items [] s.kept) (λ v. sym (get_without_items [] s.kept v));
  turns = omega arith;
}

without_both : (xs ys : List Address) (kept : KeptByAddress)
    → without_items ys (without_items xs kept) ≡ without_items (xs ++ ys) kept
without_both xs ys kept =
    same_kept (without_items ys (without_items xs kept)) (without_items (xs ++ ys) kept) (λ v.
    get_without_items ys (without_items xs kept) v
    ∙ ap (cond (is_of_any ys v) None) (get_without_items xs kept v)
    ∙ either (is_of_any xs v) (is_of_any ys v) (finite.get kept v)
    ∙ ap (λ b. cond b None (finite.get kept v))
    (sym (list_any-append (λ item. is_of item v) xs ys))
    ∙ sym (get_without_items (xs ++ ys) kept v))
  where
    either : (b c : Bool) (o : Option KeptItem)
        → cond c None (cond b None o) ≡ cond (b || c) None o
    either true true o = refl
    either true false o = refl
    either false c o = refl

pub released_more : (xs ys : List Address) (old between new : BridgeState)
    → IsReleased xs old between
    → IsReleased ys between new → IsReleased (xs ++ ys) old new
released_more xs ys old between new h k = record {
  family = k.family ∙ h.family;
  kept = k.kept ∙ ap (without_items ys) h.kept ∙ without_both xs ys old.kept;
  turns = omega (arith, h.turns, k.turns);
}

-- ---- of one item, what is kept at one address after another

-- some of what is kept of the item is released
pub record IsReleasing (at : Address) (old new : BridgeState) : Type 0 where
  pub family : new.family ≡ old.family
  pub left : without_items (at ∷ []) new.kept ≡ without_items (at ∷ []) old.kept
  pub turns : new.turns + finite.len new.kept ≤ old.turns + finite.len old.kept

pub releasing_none : (at : Address) (s : BridgeState) → IsReleasing at s s
releasing_none at s = record { family = refl; left = refl; turns = omega arith }

module _ (at : Address) where
  -- the first address that is found has a key, and is of the item
  found_there : (next : Address) (ks : List Address) → find (is_of at) ks ≡ Some next
      → (is_of at next ≡ true) × (list_any (address_eq next) ks ≡ true)
  found_there next [] e = absurd (none-some next e)
  found_there next (k ∷ ks) e = by (is_of at k) refl e (found_there next ks)
    where
      last : (b : Bool) → (b || true) ≡ true
      last true = refl
      last false = refl

      by : (b : Bool) → is_of at k ≡ b → cond b (Some k) (find (is_of at) ks) ≡ Some next
          → (find (is_of at) ks ≡ Some next
          → (is_of at next ≡ true) × (list_any (address_eq next) ks ≡ true))
          → (is_of at next ≡ true) × ((address_eq next k || list_any (address_eq next) ks) ≡ true)
      by true is f later = (
        subst (λ q. is_of at q ≡ true) (same_Some k next f) is,
        ap (λ b. b || list_any (address_eq next) ks)
            (subst (λ q. address_eq q k ≡ true) (same_Some k next f) (same_key address_order k)),
      )
      by false is f later = (
        (later f).0,
        ap (λ b. address_eq next k || b) (later f).1 ∙ last (address_eq next k),
      )

  -- none of the item is a key where none is found
  none_there : (v : Address) → is_of at v ≡ true → (ks : List Address) → find (is_of at) ks ≡ None
      → list_any (address_eq v) ks ≡ false
  none_there v own [] e = refl
  none_there v own (k ∷ ks) e = by (is_of at k) refl e (none_there v own ks)
    where
      by : (b : Bool) → is_of at k ≡ b → cond b (Some k) (find (is_of at) ks) ≡ None
          → (find (is_of at) ks ≡ None → list_any (address_eq v) ks ≡ false)
          → (address_eq v k || list_any (address_eq v) ks) ≡ false
      by true is f later = absurd (none-some k (sym f))
      by false is f later =
          ap (λ b. b || list_any (address_eq v) ks)
          (other_key address_order v k (λ s. true≢false (sym own ∙ ap (is_of at) s ∙ is)))
          ∙ later f

  -- so all is released once none is found
  nothing_left : (kept : KeptByAddress) → find (is_of at) (finite.keys kept) ≡ None
      → kept ≡ without_items (at ∷ []) kept
  nothing_left kept e =
      same_kept kept (without_items (at ∷ []) kept) (λ v.
      by v (is_of at v) refl ∙ sym (get_without_items (at ∷ []) kept v))
    where
      by : (v : Address) (b : Bool) → is_of at v ≡ b
          → finite.get kept v ≡ cond (b || false) None (finite.get kept v)
      by v true own =
          none_of (finite.get kept v)
          (finite.contains_key-keys kept v ∙ none_there v own (finite.keys kept) e)
      by v false other = refl

  pub all_released : (old new : BridgeState) → IsReleasing at old new
      → None ≡ find (is_of at) (finite.keys new.kept) → IsReleased (at ∷ []) old new
  all_released old new h none = record {
    family = h.family;
    kept = nothing_left new.kept (sym none) ∙ h.left;
    turns = h.turns;
  }

  -- ---- one more

  without_next : (next : Address) (kept : KeptByAddress) → is_of at next ≡ true
      → without_items (at ∷ []) (finite.remove kept next) ≡ without_items (at ∷ []) kept
  without_next next kept own =
      same_kept (without_items (at ∷ []) (finite.remove kept next)) (without_items (at ∷ []) kept)
      (λ v. get_without_items (at ∷ []) (finite.remove kept next) v
      ∙ ap (cond (is_of_any (at ∷ []) v) None) (finite.get-remove address_total kept next v)
      ∙ by v (is_of at v) refl
      ∙ sym (get_without_items (at ∷ []) kept v))
    where
      by : (v : Address) (b : Bool) → is_of at v ≡ b
          → cond (b || false) None (cond (address_eq v next) None (finite.get kept v))
          ≡ cond (b || false) None (finite.get kept v)
      by v true is = refl
      by v false is =
          ap (λ b. cond b None (finite.get kept v))
          (other_key address_order v next
          (λ s. true≢false (sym own ∙ ap (is_of at) (sym s) ∙ is)))

  fewer : (next : Address) (kept : KeptByAddress) → Some next ≡ find (is_of at) (finite.keys kept)
      → finite.len kept ≡ finite.len (finite.remove kept next) + 1
  fewer next kept e =
      len_removed kept next
      (finite.contains_key-keys kept next ∙ (found_there next (finite.keys kept) (sym e)).1)

  one_turn : (s : BridgeState) (kept : KeptByAddress) → finite.len s.kept ≡ finite.len kept + 1
      → one_more s.turns + finite.len kept ≤ s.turns + finite.len s.kept
  one_turn s kept e = least s.turns (finite.len kept) (finite.len s.kept) e
    where
      least : (n a b : ℕ) → b ≡ a + 1 → one_more n + a ≤ n + b
      least n a b e = omega (arith, e)

  pub one_released : (next : Address) (old now after : BridgeState) → IsReleasing at old now
      → Some next ≡ find (is_of at) (finite.keys now.kept) → after ≡ gone now next
      → IsReleasing at old after
  one_released next old now after h e is =
      subst (IsReleasing at old) (sym is) (record {
        family = h.family;
        left = without_next next now.kept (found_there next (finite.keys now.kept) (sym e)).0
            ∙ h.left;
        turns = through (one_more now.turns + finite.len (finite.remove now.kept next))
            (now.turns + finite.len now.kept) (old.turns + finite.len old.kept)
            (one_turn now (finite.remove now.kept next) (fewer next now.kept e)) h.turns;
      })
    where
      through : (a b c : ℕ) → a ≤ b → b ≤ c → a ≤ c
      through a b c h k = omega (arith, h, k)

  -- and fewer are left to be
  pub fewer_left : (next : Address) (now after : BridgeState)
      → Some next ≡ find (is_of at) (finite.keys now.kept) → after ≡ gone now next
      → finite.len after.kept < finite.len now.kept
  fewer_left next now after e is =
      subst (λ (s : BridgeState). finite.len s.kept < finite.len now.kept) (sym is)
      (less (finite.len now.kept) (finite.len (finite.remove now.kept next))
      (fewer next now.kept e))
    where
      less : (a b : ℕ) → a ≡ b + 1 → b < a
      less a b e = omega (arith, e)
