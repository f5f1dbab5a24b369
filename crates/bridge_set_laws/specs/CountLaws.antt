-- Where at most one bridge keeps something at each address, bridges without what is kept at some
-- addresses keep at most that many items fewer.
--     without_each      of a bridge: without what is kept at the addresses
--     IsKeptByOne       at most one bridge keeps something at an address
use Rattle.std.specs.Prelude.{◌≡◌, ◌⊎◌, ◌≤◌, ◌+◌, ℕ, List, [], ◌∷◌, All, AllPairs, IsSome, Option, Some, None, length, map, refl}
use Rattle.std.specs.FinMap as finite
use Rattle.std.proofs.Common.{inl, inr, arith, sym, ap, ap₂}
use Rattle.std.proofs.lemmas.List.Elements.{All-head, All-tail, All-weaker}
use Rattle.aff_core.specs.Address.{Address, address_total, exact_addresses}
use Rattle.bridge_face.specs.BridgeState.{KeptByAddress}
use Rattle.bridge_face.specs.declared.kept_item.KeptItem.{KeptItem}
use Rattle.bridge_set.specs.Letting.{kept_count}
use Rattle.bridge_set.specs.LettingLaws.{kept_cons, len_removed}
use Rattle.item_core.specs.declared.family.Family.{Family}
use Rattle.leaf_update.specs.Splice.{without_all}
use Rattle.leaf_update.specs.SplicedLaws.{none_without}
use Rattle.map_laws.specs.OptionLaws.{not_some, some_is}
use Rattle.map_laws.specs.PairLaws.{AllPairs-head, AllPairs-map, AllPairs-tail}
use Rattle.map_laws.specs.SumLaws.{taken_in_vain}

abbrev pub without_each : List Address → Family × KeptByAddress → Family × KeptByAddress
without_each gone k = (k.0, without_all k.1 gone)

abbrev pub IsKeptByOne : Address → List (Family × KeptByAddress) → Type 0
IsKeptByOne at ks =
    AllPairs (λ (k l : Family × KeptByAddress). (finite.get k.1 at ≡ None) ⊎ (finite.get l.1 at ≡ None)) ks

-- ---- one address

abbrev without : Address → Family × KeptByAddress → Family × KeptByAddress
without at k = (k.0, finite.remove k.1 at)

module _ (at : Address) where
  abbrev HasNone : Family × KeptByAddress → Type 0
  HasNone k = finite.get k.1 at ≡ None

  abbrev Either : Family × KeptByAddress → Family × KeptByAddress → Type 0
  Either k l = (finite.get k.1 at ≡ None) ⊎ (finite.get l.1 at ≡ None)

  untouched : (ks : List (Family × KeptByAddress)) → All HasNone ks → map (without at) ks ≡ ks
  untouched [] h = refl
  untouched (k ∷ ks) h =
      ap₂ (λ (m : KeptByAddress) (js : List (Family × KeptByAddress)). (k.0, m) ∷ js)
      (taken_in_vain address_total exact_addresses k.1 at (All-head HasNone k ks h))
      (untouched ks (All-tail HasNone k ks h))

  others_none : (k : Family × KeptByAddress) (ks : List (Family × KeptByAddress))
      → IsSome (finite.get k.1 at)
      → All (Either k) ks → All HasNone ks
  others_none k ks some h = All-weaker (Either k) HasNone by ks h
    where
      by : (l : Family × KeptByAddress) → Either k l → HasNone l
      by l (inl e) = absurd (not_some (finite.get k.1 at) e some)
      by l (inr e) = e

  one_gone : (ks : List (Family × KeptByAddress)) → IsKeptByOne at ks
      → kept_count ks ≤ kept_count (map (without at) ks) + 1
  one_gone [] h = omega arith
  one_gone (k ∷ ks) h =
      by (finite.get k.1 at) refl (one_gone ks (AllPairs-tail Either k ks h))
    where
      as_many : (a b l m p q : ℕ) → a ≡ l + p → b ≡ m + q → l ≡ m → p ≤ q + 1 → a ≤ b + 1
      as_many a b l m p q e f g h = omega (arith, e, f, g, h)

      one_fewer : (a b l m p q : ℕ) → a ≡ l + p → b ≡ m + q → l ≡ m + 1 → q ≡ p → a ≤ b + 1
      one_fewer a b l m p q e f g h = omega (arith, e, f, g, h)

      by : (o : Option KeptItem) → finite.get k.1 at ≡ o
          → kept_count ks ≤ kept_count (map (without at) ks) + 1
          → kept_count (k ∷ ks) ≤ kept_count (map (without at) (k ∷ ks)) + 1
      by None e later =
          as_many (kept_count (k ∷ ks)) (kept_count (map (without at) (k ∷ ks))) (finite.len k.1)
          (finite.len (finite.remove k.1 at)) (kept_count ks) (kept_count (map (without at) ks))
          (kept_cons k ks) (kept_cons (without at k) (map (without at) ks))
          (sym (ap (λ (m : KeptByAddress). finite.len m)
          (taken_in_vain address_total exact_addresses k.1 at e))) later
      by (Some x) e later =
          let some = some_is (finite.get k.1 at) x e in
          one_fewer (kept_count (k ∷ ks)) (kept_count (map (without at) (k ∷ ks))) (finite.len k.1)
          (finite.len (finite.remove k.1 at)) (kept_count ks) (kept_count (map (without at) ks))
          (kept_cons k ks) (kept_cons (without at k) (map (without at) ks))
          (len_removed k.1 at some)
          (ap kept_count (untouched ks (others_none k ks some (AllPairs-head Either k ks h))))

  alone_still : (q : Address) (ks : List (Family × KeptByAddress)) → IsKeptByOne q ks
      → IsKeptByOne q (map (without at) ks)
  alone_still q ks h =
      AllPairs-map (λ (k l : Family × KeptByAddress). (finite.get k.1 q ≡ None) ⊎ (finite.get l.1 q ≡ None))
      (without at) (λ (k l : Family × KeptByAddress). (finite.get k.1 q ≡ None) ⊎ (finite.get l.1 q ≡ None))
      ks each h
    where
      each : (k l : Family × KeptByAddress) → (finite.get k.1 q ≡ None) ⊎ (finite.get l.1 q ≡ None)
          → (finite.get (finite.remove k.1 at) q ≡ None)
          ⊎ (finite.get (finite.remove l.1 at) q ≡ None)
      each k l (inl e) = inl (none_without q k.1 (at ∷ []) e)
      each k l (inr e) = inr (none_without q l.1 (at ∷ []) e)

  without_more : (gone : List Address) (ks : List (Family × KeptByAddress))
      → map (without_each gone) (map (without at) ks) ≡ map (without_each (at ∷ gone)) ks
  without_more gone [] = refl
  without_more gone (k ∷ ks) =
      ap (λ js. without_each gone (without at k) ∷ js) (without_more gone ks)

-- ---- one address after another

without_nothing : (ks : List (Family × KeptByAddress)) → map (without_each []) ks ≡ ks
without_nothing [] = refl
without_nothing (k ∷ ks) = ap (λ js. k ∷ js) (without_nothing ks)

pub few_gone : (gone : List Address) (ks : List (Family × KeptByAddress))
    → ((at : Address) → IsKeptByOne at ks)
    → kept_count ks ≤ kept_count (map (without_each gone) ks) + length gone
few_gone [] ks alone = none (kept_count ks) (kept_count (map (without_each []) ks))
    (ap kept_count (without_nothing ks))
  where
    none : (a b : ℕ) → b ≡ a → a ≤ b + 0
    none a b e = omega (arith, e)
few_gone (at ∷ gone) ks alone =
    more (kept_count ks) (kept_count (map (without at) ks))
    (kept_count (map (without_each gone) (map (without at) ks)))
    (kept_count (map (without_each (at ∷ gone)) ks)) (length gone) (length (at ∷ gone))
    (one_gone at ks (alone at))
    (few_gone gone (map (without at) ks) (λ q. alone_still at q ks (alone q)))
    (ap kept_count (without_more at gone ks)) (omega arith)
  where
    more : (a b c d n m : ℕ) → a ≤ b + 1 → b ≤ c + n → c ≡ d → m ≡ n + 1 → a ≤ d + m
    more a b c d n m h k e f = omega (arith, h, k, e, f)
