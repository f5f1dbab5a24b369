-- How addresses and indices are kept: entries item by item with room for more, and beside them the
-- addresses by index.
use Rattle.std.specs.Prelude.{◌≡◌, ℕ, List, Option, Some, min, nat_eq, vec_len}
use Rattle.std.specs.FinMap as finite
use Rattle.std.specs.Map.{lookup}
use Rattle.indexmap.specs.IndexMap.{spare}
use Rattle.aff_core.specs.Address.{Address}
use Rattle.address_map.specs.Places.{Places}
use Rattle.address_map.specs.declared.places.Places.TheInside.{Inside}
use Rattle.address_map.specs.declared.reserved.Reserved.TheInside.{Inside as Reserved}

-- one leads back where the other leads
pub record AreInverseMaps (there : Address → Option ℕ) (back : ℕ → Option Address) : Type 0 where
  pub leads : (at : Address) (i : ℕ) → there at ≡ Some i → back i ≡ Some at
  pub returns : (at : Address) (i : ℕ) → back i ≡ Some at → there at ≡ Some i

-- the address that the entries have for an index
abbrev pub address_among : List (ℕ × Address) → ℕ → Option Address
address_among es i = lookup (nat_eq i) es

-- as many more fit as there are rooms, and places for items
abbrev pub reserved_in : Reserved → Places
reserved_in a = record {
  indices = a.ordered.entries;
  spare = min (vec_len a.rooms) a.ordered.spare;
}

abbrev pub places_in : Inside → Places
places_in a = record {
  indices = a.ordered.indices;
  spare = min a.ordered.spare (spare a.by_index);
}

abbrev pub IsOrderedKept : Inside → Type 0
IsOrderedKept a = AreInverseMaps (finite.get a.ordered.indices) (address_among a.by_index.entries)
