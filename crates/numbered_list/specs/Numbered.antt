-- Lists of items in the order of their numbers.
use Rattle.std.specs.Prelude.{◌≡◌, ℕ, ◌<◌, ◌==◌, nat_lt, List, ◌++◌, Option, Some, None, IfSome, AllPairs, filter}
use Rattle.std.specs.List as list
use Rattle.std.specs.Option.{option_to_list}

-- each number is below all later ones
pub record Rise {X : Type 0} (number_of : X → ℕ) (xs : List X) : Type 0 where
  pub rising : AllPairs (λ x y. number_of x < number_of y) xs

module _ {X : Type 0} (number_of : X → ℕ) where
  -- the item with the number n
  abbrev pub find : ℕ → List X → Option X
  find n xs = list.find (λ x. number_of x == n) xs

  -- the items of lesser numbers than n
  abbrev pub below : ℕ → List X → List X
  below n xs = filter (λ x. nat_lt (number_of x) n) xs

  -- the items of greater numbers than n
  abbrev pub above : ℕ → List X → List X
  above n xs = filter (λ x. nat_lt n (number_of x)) xs

  -- what is to stand at the number n, if anything is, has that number
  abbrev pub IsAt : ℕ → Option X → Type 0
  IsAt n new = IfSome new (λ x. number_of x ≡ n)

  -- what is to stand at the number n, if anything is, between the items of lesser and of greater
  -- numbers
  unfoldable pub set_at : ℕ → Option X → List X → List X
  set_at n new xs = below n xs ++ (option_to_list new ++ above n xs)

  -- an item in the place of its number, where another may have stood
  abbrev pub put : X → List X → List X
  put x xs = set_at (number_of x) (Some x) xs

  -- the items of other numbers than n
  abbrev pub without : ℕ → List X → List X
  without n xs = set_at n None xs
