-- Where a number stands in a list, or would stand.
use Rattle.std.specs.Prelude.{◌≡◌, ℕ, ◌+◌, ◌<◌, ◌≤◌, List, None, IsSome, Result, MatchResult, length, take, drop, slice_get}
use Rattle.numbered_list.specs.Numbered.{find, below, above}

module _ {X : Type 0} (number_of : X → ℕ) where
  -- the item with the number n stands at place i, after all of lesser numbers and before all of
  -- greater ones
  pub record IsFoundAt (n : ℕ) (xs : List X) (i : ℕ) : Type 0 where
    pub in_range : i < length xs
    pub found : find number_of n xs ≡ slice_get xs i
    pub there : IsSome (find number_of n xs)
    pub before : take i xs ≡ below number_of n xs
    pub after : drop (i + 1) xs ≡ above number_of n xs

  -- no item has the number n; those before place i have lesser numbers, and the others greater ones
  pub record IsMissingAt (n : ℕ) (xs : List X) (i : ℕ) : Type 0 where
    pub in_range : i ≤ length xs
    pub absent : find number_of n xs ≡ None
    pub before : take i xs ≡ below number_of n xs
    pub after : drop i xs ≡ above number_of n xs

  -- what a search for the number n answers
  abbrev pub IsNumberPlace : ℕ → List X → Result ℕ ℕ → Type 0
  IsNumberPlace n xs place = MatchResult place (IsFoundAt n xs) (IsMissingAt n xs)
