-- What a map of addresses has for some variables, set anew.
--     SetsOne SetsAt      one variable, or some, have this value now, and others what they had
--     expr_at is_marked   the function of a variable, and whether it is marked as kept
use Rattle.std.specs.Prelude.{◌≡◌, Bool, cond, List, Option, is_some}
use Rattle.std.specs.FinMap as finite
use Rattle.address_map.specs.AddressMap.{AddressMap}
use Rattle.aff_core.specs.Address.{Address, address_eq}
use Rattle.aff_core.specs.Function.{Function}
use Rattle.leaf_update.specs.Others.{among}

abbrev pub expr_at : AddressMap → Address → Option Function
expr_at m v = finite.get m.exprs v

abbrev pub is_marked : AddressMap → Address → Bool
is_marked m v = is_some (finite.get m.kept v)

module _ {T : Type 0} (value : Address → T) where
  abbrev pub SetsOne : Address → (Address → T) → (Address → T) → Type 0
  SetsOne var old new = (v : Address) → new v ≡ cond (address_eq v var) (value v) (old v)

  abbrev pub SetsAt : List Address → (Address → T) → (Address → T) → Type 0
  SetsAt vars old new = (v : Address) → new v ≡ cond (among vars v) (value v) (old v)
