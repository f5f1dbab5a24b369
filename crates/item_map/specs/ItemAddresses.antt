-- Which addresses are at or below that of an item of the model: those with its root and its number.
use Rattle.std.specs.Prelude.{Bool}
use Rattle.aff_core.specs.Address.{Address, address_eq, root_address}

-- the address of the item of the model that an address is at or below
abbrev pub item_of : Address → Address
item_of at = root_address at.root at.number

abbrev pub is_of : Address → Address → Bool
is_of item at = address_eq (item_of at) item
