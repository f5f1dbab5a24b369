-- A list that is kept as a tree of forks, each an item with what is before it and what is after it.
use Rattle.std.specs.Prelude.{◌≡◌, ◌<◌, ◌^◌, List, [], ◌∷◌, ◌++◌, Option, Some, None, length, Box}
use Rattle.std.specs.declared.alloc.Global.{Global}
use Rattle.item_map.specs.declared.ranked.Fork.{Fork}

abbrev pub items_of : {T : Type 0} → Fork T → List T
items_of fork = fork.before ++ fork.item ∷ fork.after

abbrev pub items_in : {T : Type 0} → Option (Box (Fork T) Global) → List T
items_in None = []
items_in (Some fork) = items_of fork.value

-- the fork knows how many items there are, which fit 64 bits
abbrev pub IsCounted : {T : Type 0} → Fork T → Type 0
IsCounted fork = (fork.len ≡ length (items_of fork)) × (length (items_of fork) < 2 ^ 64)

abbrev pub AreCounted : {T : Type 0} → Option (Box (Fork T) Global) → Type 0
AreCounted None = Unit {0}
AreCounted (Some fork) = IsCounted fork.value
