-- Which items mention which variables: at each variable of some, a set of addresses.
--     noted_in         the items noted at a variable
--     noted_items      the same, in the order of their addresses
--     IsNotedAt        at one variable these are noted now, at each other the same as before
use Rattle.std.specs.Prelude.{◌≡◌, ◌≢◌, List, unwrap_or}
use Rattle.std.specs.Coded.{Coded}
use Rattle.std.specs.FinMap as finite
use Rattle.std.specs.FinMap.{FinMap}
use Rattle.std.specs.FinSet as set
use Rattle.aff_core.specs.Address.{Address, address_cmp, address_code}

abbrev pub AddressSet : Type 0
AddressSet = set.FinSet address_cmp

abbrev pub Noted : Type 0
Noted = FinMap address_cmp AddressSet

abbrev pub set_code : Coded AddressSet
set_code = set.code address_code

abbrev pub noted_code : Coded Noted
noted_code = finite.code address_code set_code

abbrev pub with_item : AddressSet → Address → AddressSet
with_item items at = finite.insert items at tt

abbrev pub without_item : AddressSet → Address → AddressSet
without_item items at = finite.remove items at

abbrev pub noted_in : Noted → Address → AddressSet
noted_in noted var = unwrap_or (finite.get noted var) finite.empty

abbrev pub noted_items : Noted → Address → List Address
noted_items noted var = finite.keys (noted_in noted var)

pub record IsNotedAt (old new : Noted) (var : Address) (items : AddressSet) : Type 0 where
  pub here : noted_in new var ≡ items
  pub elsewhere : (v : Address) → v ≢ var → noted_in new v ≡ noted_in old v
