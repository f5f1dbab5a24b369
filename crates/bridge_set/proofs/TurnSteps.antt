-- A call to one bridge adds one turn at most.
use Rattle.std.specs.Prelude.{◌≡◌, ◌≤◌, ◌+◌, ℕ, zero, suc, List, [], ◌∷◌, slice_get, slice_set, Some}
use Rattle.std.specs.List.{fold}
use Rattle.std.proofs.Common.{arith, sym, ap, subst, ◌∙◌}
use Rattle.std.proofs.lemmas.Option.{none-some, same_Some}
use Rattle.bridge_face.specs.BridgeState.{BridgeState, KeptByAddress, after, one_more}
use Rattle.bridge_set.specs.Bridges.{IsChangedFor}
use Rattle.item_core.specs.declared.family.Family.{Family}
use Rattle.bridge_set.specs.Turns.{turns_of}

turns_from : (a : ℕ) (xs : List BridgeState)
    → fold (λ a (s : BridgeState). a + s.turns) a xs ≡ a + turns_of xs
turns_from a [] = none a
  where
    none : (a : ℕ) → a ≡ a + 0
    none a = omega arith
turns_from a (x ∷ xs) =
    turns_from (a + x.turns) xs ∙ add a x.turns (turns_of xs)
    ∙ ap (λ n. a + n) (sym (turns_from (0 + x.turns) xs))
  where
    add : (a b c : ℕ) → a + b + c ≡ a + (0 + b + c)
    add a b c = omega arith

pub turns_cons : (x : BridgeState) (xs : List BridgeState)
    → turns_of (x ∷ xs) ≡ x.turns + turns_of xs
turns_cons x xs = turns_from (0 + x.turns) xs ∙ ap (λ n. n + turns_of xs) (zero_first x.turns)
  where
    zero_first : (n : ℕ) → 0 + n ≡ n
    zero_first n = omega arith

-- a change of a bridge that takes a turn at most
abbrev pub TakesOne : (BridgeState → BridgeState) → Type 0
TakesOne change = (s : BridgeState) → (change s).turns ≤ s.turns + 1

pub one_turn : (s : BridgeState) (kept : KeptByAddress) → (after s kept).turns ≤ s.turns + 1
one_turn s kept = least s.turns
  where
    least : (n : ℕ) → one_more n ≤ n + 1
    least n = omega arith

-- of the bridge at a place
pub turns_at : (change : BridgeState → BridgeState) → TakesOne change
    → (old : List BridgeState) (place : ℕ)
    (s : BridgeState) → slice_get old place ≡ Some s
    → turns_of (slice_set old place (change s)) ≤ turns_of old + 1
turns_at change takes [] place s e = absurd (none-some s e)
turns_at change takes (x ∷ xs) zero s e =
    head x.turns (change s).turns (turns_of xs) (turns_of (change s ∷ xs)) (turns_of (x ∷ xs))
    (turns_cons (change s) xs) (turns_cons x xs)
    (subst (λ (y : BridgeState). (change s).turns ≤ y.turns + 1) (sym (same_Some x s e)) (takes s))
  where
    head : (n m r a b : ℕ) → a ≡ m + r → b ≡ n + r → m ≤ n + 1 → a ≤ b + 1
    head n m r a b e f h = omega (arith, e, f, h)
turns_at change takes (x ∷ xs) (suc place) s e =
    tail x.turns (turns_of (slice_set xs place (change s))) (turns_of xs)
    (turns_of (x ∷ slice_set xs place (change s))) (turns_of (x ∷ xs))
    (turns_cons x (slice_set xs place (change s))) (turns_cons x xs)
    (turns_at change takes xs place s e)
  where
    tail : (x m r a b : ℕ) → a ≡ x + m → b ≡ x + r → m ≤ r + 1 → a ≤ b + 1
    tail x m r a b e f h = omega (arith, e, f, h)

pub turns_changed : (family : Family) (change : BridgeState → BridgeState) → TakesOne change
    → (old new : List BridgeState) → IsChangedFor family change old new
    → turns_of new ≤ turns_of old + 1
turns_changed family change takes old new h =
    subst (λ ss. turns_of ss ≤ turns_of old + 1) (sym h.new_is)
    (turns_at change takes old h.place h.was h.at)
