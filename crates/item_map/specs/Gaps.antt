-- Where an address's entry stands among the entries of a map, or would stand.
use Rattle.std.specs.Prelude.{◌≡◌, ℕ, ◌<◌, ◌≤◌, Some, None, length, slice_index_or}
use Rattle.std.specs.FinMap as finite
use Rattle.std.specs.FinMap.{FinMap}
use Rattle.std.specs.List.{insert, remove}
use Rattle.aff_core.specs.Address.{Address, address_cmp}

-- the address's entry stands at place n
pub record IsPlaceOf {X : Type 0} (m : FinMap address_cmp X) (at : Address) (n : ℕ) : Type 0 where
  pub in_range : n < length (finite.entries m)
  pub found :
      (d : Address × X) → finite.get m at ≡ Some (slice_index_or (finite.entries m) n d).1
  pub others : finite.entries (finite.remove m at) ≡ remove (finite.entries m) n

-- the address has no entry, and one would stand at place n
pub record IsGapFor {X : Type 0} (m : FinMap address_cmp X) (at : Address) (n : ℕ) : Type 0 where
  pub in_range : n ≤ length (finite.entries m)
  pub absent : finite.get m at ≡ None
  pub given : (x : X) → finite.entries (finite.insert m at x) ≡ insert (finite.entries m) n (at, x)
