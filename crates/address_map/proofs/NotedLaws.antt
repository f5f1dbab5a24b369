-- The items noted at one variable, once others are put in their place, or all are taken away.
use Rattle.std.specs.Prelude.{◌≡◌, IsSome, Some, None, cond, is_some, unwrap_or}
use Rattle.std.proofs.Common.{sym, ap, ◌∙◌}
use Rattle.std.specs.FinMap as finite
use Rattle.aff_core.specs.Address.{Address, address_cmp, address_total, exact_addresses}
use Rattle.aff_core.specs.KeyOrder.{address_order, other_key, same_key}
use Rattle.map_laws.specs.SumLaws.{taken_in_vain}
use Rattle.address_map.specs.Noted.{AddressSet, IsNotedAt, Noted, noted_in, without_item}

-- what isn't there has no item
pub none_noted : (m : Noted) (var : Address) → finite.get m var ≡ None
    → noted_in m var ≡ finite.empty
none_noted m var e = ap (λ o. unwrap_or o finite.empty) e

pub found_noted : (m : Noted) (var : Address) (items : AddressSet) → finite.get m var ≡ Some items
    → noted_in m var ≡ items
found_noted m var items e = ap (λ o. unwrap_or o finite.empty) e

pub put_noted : (m : Noted) (var : Address) (items : AddressSet)
    → IsNotedAt m (finite.insert m var items) var items
put_noted m var items = record {
  here = ap (λ o. unwrap_or o finite.empty) (finite.get-insert address_total m var items var
      ∙ ap (λ b. cond b (Some items) (finite.get m var)) (same_key address_order var));
  elsewhere = λ v n. ap (λ o. unwrap_or o finite.empty)
      (finite.get-insert address_total m var items v
      ∙ ap (λ b. cond b (Some items) (finite.get m v)) (other_key address_order v var n));
}

pub taken_noted : (m : Noted) (var : Address)
    → IsNotedAt m (finite.remove m var) var finite.empty
taken_noted m var = record {
  here = ap (λ o. unwrap_or o finite.empty) (finite.get-remove address_total m var var
      ∙ ap (λ b. cond b None (finite.get m var)) (same_key address_order var));
  elsewhere = λ v n. ap (λ o. unwrap_or o finite.empty)
      (finite.get-remove address_total m var v
      ∙ ap (λ b. cond b None (finite.get m v)) (other_key address_order v var n));
}

-- one after the other
pub noted_then : (a b c : Noted) (var : Address) (items others : AddressSet)
    → IsNotedAt a b var items → IsNotedAt b c var others → IsNotedAt a c var others
noted_then a b c var items others first second = record {
  here = second.here;
  elsewhere = λ v n. second.elsewhere v n ∙ first.elsewhere v n;
}

-- a variable of some has some still
pub still_there : (m : Noted) (var : Address) (items : AddressSet)
    → IsSome (finite.get (finite.insert m var items) var)
still_there m var items =
    ap is_some (finite.get-insert address_total m var items var
    ∙ ap (λ b. cond b (Some items) (finite.get m var)) (same_key address_order var))

-- nothing is taken where nothing was
pub unnoted : (m : Noted) (var item : Address) → finite.get (noted_in m var) item ≡ None
    → IsNotedAt m m var (without_item (noted_in m var) item)
unnoted m var item e = record {
  here = sym (taken_in_vain address_total exact_addresses (noted_in m var) item e);
  elsewhere = λ v n i. noted_in m v;
}

pub empty_misses : (s : AddressSet) (item : Address) → s ≡ finite.empty → finite.get s item ≡ None
empty_misses s item e = ap (λ s. finite.get s item) e ∙ finite.get-empty address_cmp item
