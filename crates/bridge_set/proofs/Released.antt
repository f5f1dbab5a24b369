-- Each bridge in turn releases what it keeps of some items.
use Rattle.std.specs.Prelude.{◌≡◌, ◌≤◌, ◌<◌, ◌+◌, ℕ, zero, suc, List, [], ◌∷◌, map, length, option_map, slice_get, slice_set, slice_index_or, Some, refl}
use Rattle.std.specs.FinMap as finite
use Rattle.std.proofs.Common.{arith, sym, ap, subst, ◌∙◌}
use Rattle.std.proofs.lemmas.List.{length-map, map-set}
use Rattle.std.proofs.lemmas.Option.{get_or_from_slice_get, none-some, same_Some, slice_get-map}
use Rattle.aff_core.specs.Address.{Address}
use Rattle.bridge_face.specs.BridgeState.{BridgeState, KeptByAddress}
use Rattle.bridge_set.specs.Bridges.{families_of, kept_by}
use Rattle.bridge_set.specs.Letting.{AreReleased, IsReleased, kept_count, without_found}
use Rattle.bridge_set.specs.LettingLaws.{kept_cons}
use Rattle.bridge_set.specs.Turns.{turns_of}
use Rattle.bridge_set.proofs.Stands.{state_at}
use Rattle.bridge_set.proofs.TurnSteps.{turns_cons}
use Rattle.item_core.specs.declared.family.Family.{Family}
use Rattle.map_laws.specs.LoopLaws.{IsPast, past_all, past_more, past_none}

-- turns and what is kept come to no more where one of the bridges releases something
turns_left : (ss : List BridgeState) (n : ℕ) (s t : BridgeState) → slice_get ss n ≡ Some s
    → t.turns + finite.len t.kept ≤ s.turns + finite.len s.kept
    → turns_of (slice_set ss n t) + kept_count (kept_by (slice_set ss n t))
    ≤ turns_of ss + kept_count (kept_by ss)
turns_left [] n s t e h = absurd (none-some s e)
turns_left (x ∷ xs) zero s t e h =
    head (turns_of (t ∷ xs)) (turns_of (x ∷ xs)) (kept_count (kept_by (t ∷ xs)))
    (kept_count (kept_by (x ∷ xs))) t.turns x.turns (turns_of xs) (finite.len t.kept)
    (finite.len x.kept) (kept_count (kept_by xs)) (turns_cons t xs) (turns_cons x xs)
    (kept_cons (t.family, t.kept) (kept_by xs)) (kept_cons (x.family, x.kept) (kept_by xs))
    (subst (λ (y : BridgeState). t.turns + finite.len t.kept ≤ y.turns + finite.len y.kept)
    (sym (same_Some x s e)) h)
  where
    head : (a b c d t x m k l q : ℕ) → a ≡ t + m → b ≡ x + m → c ≡ k + q → d ≡ l + q
        → t + k ≤ x + l → a + c ≤ b + d
    head a b c d t x m k l q e f g i h = omega (arith, e, f, g, i, h)
turns_left (x ∷ xs) (suc n) s t e h =
    tail (turns_of (x ∷ slice_set xs n t)) (turns_of (x ∷ xs))
    (kept_count (kept_by (x ∷ slice_set xs n t))) (kept_count (kept_by (x ∷ xs)))
    x.turns (turns_of (slice_set xs n t)) (turns_of xs)
    (finite.len x.kept) (kept_count (kept_by (slice_set xs n t))) (kept_count (kept_by xs))
    (turns_cons x (slice_set xs n t)) (turns_cons x xs)
    (kept_cons (x.family, x.kept) (kept_by (slice_set xs n t)))
    (kept_cons (x.family, x.kept) (kept_by xs)) (turns_left xs n s t e h)
  where
    tail : (a b c d x m n l p q : ℕ) → a ≡ x + m → b ≡ x + n → c ≡ l + p → d ≡ l + q
        → m + p ≤ n + q → a + c ≤ b + d
    tail a b c d x m n l p q e f g i h = omega (arith, e, f, g, i, h)

-- the first bridges have released the items, and the others are as they were
pub record AreReleasedTo (items : List Address) (old now : List BridgeState) (n : ℕ) : Type 0 where
  pub kept : IsPast (without_found items) (kept_by old) (kept_by now) n
  pub turns : turns_of now + kept_count (kept_by now) ≤ turns_of old + kept_count (kept_by old)

pub released_to_none : (items : List Address) (ss : List BridgeState) → AreReleasedTo items ss ss 0
released_to_none items ss = record {
  kept = past_none (without_found items) (kept_by ss);
  turns = omega arith;
}

pub released_to_all : (items : List Address) (old now : List BridgeState) (n : ℕ)
    → length (kept_by old) ≤ n → AreReleasedTo items old now n → AreReleased items old now
released_to_all items old now n end h = record {
  kept = past_all (without_found items) (kept_by old) (kept_by now) n end h.kept;
  turns = h.turns;
}

pub long_kept : (ss : List BridgeState) → length (kept_by ss) ≡ length ss
long_kept ss = length-map {B = Family × KeptByAddress} ss (λ s. (s.family, s.kept))

-- bridges that keep as much are of the same families
families_kept : (ss : List BridgeState)
    → map (λ (k : Family × KeptByAddress). k.0) (kept_by ss) ≡ families_of ss
families_kept [] = refl
families_kept (s ∷ ss) = ap (λ fs. s.family ∷ fs) (families_kept ss)

pub released_families : (items : List Address) (old new : List BridgeState)
    → AreReleased items old new
    → families_of new ≡ families_of old
released_families items old new h =
    sym (families_kept new) ∙ ap (map (λ (k : Family × KeptByAddress). k.0)) h.kept ∙ same old
  where
    same : (ss : List BridgeState)
        → map (λ (k : Family × KeptByAddress). k.0) (map (without_found items) (kept_by ss))
        ≡ families_of ss
    same [] = refl
    same (s ∷ ss) = ap (λ fs. s.family ∷ fs) (same ss)

module _ {B : Type 0} (state : B → BridgeState) (items : List Address) where
  abbrev pair : BridgeState → Family × KeptByAddress
  pair s = (s.family, s.kept)

  -- one more has
  pub next_released : (old now : List B) (n : ℕ) (b d after : B) → n < length now
      → b ≡ slice_index_or now n d → IsReleased items (state b) (state after)
      → length now ≡ length old
      → AreReleasedTo items (map state old) (map state now) n
      → AreReleasedTo items (map state old) (map state (slice_set now n after)) (n + 1)
  next_released old now n b d after lt e released long so_far =
      subst (λ ss. AreReleasedTo items (map state old) ss (n + 1)) (sym (map-set state now n after))
      (record {
        kept = subst (λ ks. IsPast (without_found items) (kept_by (map state old)) ks (n + 1))
            (sym (map-set pair (map state now) n (state after)))
            (past_more (without_found items) (kept_by (map state old)) (kept_by (map state now)) n
            (pair (state b)) (pair (state after)) within so_far.kept
            (as_told ∙ ap (without_found items) (sym there)));
        turns = through (turns_of (slice_set (map state now) n (state after))
            + kept_count (kept_by (slice_set (map state now) n (state after))))
            (turns_of (map state now) + kept_count (kept_by (map state now)))
            (turns_of (map state old) + kept_count (kept_by (map state old)))
            (turns_left (map state now) n (state b) (state after) (state_at state now n b d lt e)
            released.turns) so_far.turns;
      })
    where
      through : (a b c : ℕ) → a ≤ b → b ≤ c → a ≤ c
      through a b c h k = omega (arith, h, k)

      within : n < length (kept_by (map state old))
      within = omega (arith, lt, long, length-map old state, long_kept (map state old))

      as_told : pair (state after) ≡ without_found items (pair (state b))
      as_told = λ i. (released.family i, released.kept i)

      there : slice_index_or (kept_by (map state now)) n (pair (state b)) ≡ pair (state b)
      there =
          get_or_from_slice_get (kept_by (map state now)) n (pair (state b)) (pair (state b))
          (slice_get-map pair (map state now) n
          ∙ ap (option_map pair) (state_at state now n b d lt e))
