-- What is kept once items are released, at each address and in number.
use Rattle.std.specs.Prelude.{◌≡◌, ◌+◌, ◌-◌, ℕ, zero, suc, Bool, true, false, cond, not, List, ◌∷◌, IsSome, Option, None, refl}
use Rattle.std.specs.FinMap as finite
use Rattle.std.proofs.Common.{arith, sym, ap, ◌∙◌}
use Rattle.std.proofs.lemmas.List.Sums.{sum_by-cons}
use Rattle.aff_core.specs.Address.{Address, address_cmp, address_total, exact_addresses}
use Rattle.bridge_face.specs.BridgeState.{KeptByAddress}
use Rattle.bridge_face.specs.declared.kept_item.KeptItem.{KeptItem}
use Rattle.bridge_set.specs.Letting.{is_of_any, kept_count, without_items}
use Rattle.item_core.specs.declared.family.Family.{Family}
use Rattle.map_laws.specs.OptionLaws.{not_some}

pub get_without_items : (items : List Address) (kept : KeptByAddress) (v : Address)
    → finite.get (without_items items kept) v
    ≡ cond (is_of_any items v) None (finite.get kept v)
get_without_items items kept v =
    finite.get-retain_keys kept (λ at. not (is_of_any items at)) v
    (λ x tied. ap (λ at. not (is_of_any items at)) (sym (exact_addresses v x tied)))
    ∙ turned (is_of_any items v) (finite.get kept v)
  where
    turned : (b : Bool) (o : Option KeptItem) → cond (not b) o None ≡ cond b None o
    turned true o = refl
    turned false o = refl

-- what is kept at an address counts one
pub len_removed : (kept : KeptByAddress) (v : Address) → IsSome (finite.get kept v)
    → finite.len kept ≡ finite.len (finite.remove kept v) + 1
len_removed kept v some = by (finite.len kept) refl
  where
    less : finite.len (finite.remove kept v) ≡ finite.len kept - 1
    less =
        finite.len-remove address_total kept v
        ∙ ap (λ b. cond b (finite.len kept - 1) (finite.len kept)) some

    by : (n : ℕ) → finite.len kept ≡ n → finite.len kept ≡ finite.len (finite.remove kept v) + 1
    by zero e =
        absurd (not_some (finite.get kept v)
        (ap (λ (m : KeptByAddress). finite.get m v) (finite.empty_of_len kept e)
        ∙ finite.get-empty {X = KeptItem} address_cmp v) some)
    by (suc n) e = omega (arith, e, less)

pub kept_cons : (k : Family × KeptByAddress) (ks : List (Family × KeptByAddress))
    → kept_count (k ∷ ks) ≡ finite.len k.1 + kept_count ks
kept_cons k ks = sum_by-cons (λ (j : Family × KeptByAddress). finite.len j.1) k ks
