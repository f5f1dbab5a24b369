-- Items that differ, as they were and as they are.
--     IsSeparated      of what was and what is at one place both are given where they differ
--     AreSides         so at each number
use Rattle.std.specs.Prelude.{◌≡◌, ◌≢◌, ℕ, List, Option, None}
use Rattle.std.specs.Option.{option_map}
use Rattle.numbered_list.specs.Numbered.{Rise, find}

-- the same, and neither is given; or another, and both are
pub data IsSeparated {X Item : Type 0} (item_of : X → Item) (was is before after : Option X)
    : Type 0 where
  same : option_map item_of was ≡ option_map item_of is → before ≡ None → after ≡ None
      → IsSeparated item_of was is before after
  differ : option_map item_of was ≢ option_map item_of is → before ≡ was → after ≡ is
      → IsSeparated item_of was is before after

pub record AreSides {X Item : Type 0} (number_of : X → ℕ) (item_of : X → Item)
    (was is : ℕ → Option X) (before after : List X) : Type 0 where
  pub rising_before : Rise number_of before
  pub rising_after : Rise number_of after
  pub each :
      (n : ℕ) → IsSeparated item_of (was n) (is n) (find number_of n before) (find number_of n after)
