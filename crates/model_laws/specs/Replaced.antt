-- One item in another's place, in a list in the order of its numbers: the list is what stands
-- before, the item, and what stands after.
use Rattle.std.specs.Prelude.{◌≡◌, ℕ, ◌+◌, ◌≤◌, ◌==◌, nat_lt, Bool, true, false, not, cond, List, [], ◌∷◌, ◌++◌, Option, Some, All, AllPairs, filter, sum_by, length}
use Rattle.std.specs.Option.{option_to_list}
use Rattle.std.proofs.Common.{arith, sym, subst, ◌∙◌}
use Rattle.std.proofs.lemmas.List.{length-append}
use Rattle.std.proofs.lemmas.List.Elements.{All-append, All-cons, All-filter}
use Rattle.std.proofs.lemmas.List.Kept.{AllPairs-filter}
use Rattle.std.proofs.lemmas.List.Sums.{sum_by-append, sum_by-cons, length-filter, count_by-le-length}
use Rattle.numbered_list.specs.Numbered.{Rise, find, below, above, set_at, put, without}
use Rattle.numbered_list.specs.SetLaws.{set_at_found, without-filter}

-- a filter keeps no more than there was
pub length_filter : {X : Type 0} (p : X → Bool) (xs : List X) → length (filter p xs) ≤ length xs
length_filter p xs = omega (arith, length-filter p xs, count_by-le-length p xs)

pub sum_filter : {X : Type 0} (f : X → ℕ) (p : X → Bool) (xs : List X)
    → sum_by f (filter p xs) ≤ sum_by f xs
sum_filter f p [] = omega arith
sum_filter f p (x ∷ xs) = first (p x) (sum_filter f p xs)
  where
    first : (b : Bool) → sum_by f (filter p xs) ≤ sum_by f xs
        → sum_by f (cond b (x ∷ filter p xs) (filter p xs)) ≤ sum_by f (x ∷ xs)
    first true rest = omega (arith, sum_by-cons f x (filter p xs), sum_by-cons f x xs)
    first false rest = omega (arith, sum_by-cons f x xs)

module _ {X : Type 0} (number_of : X → ℕ) where
  -- the list around an item that stands in it
  pub around : (n : ℕ) (y : X) (xs : List X) → Rise number_of xs → find number_of n xs ≡ Some y
      → below number_of n xs ++ (y ∷ above number_of n xs) ≡ xs
  unfolding set_at
  around n y xs rise found =
      subst (λ o. set_at number_of n o xs ≡ xs) found (set_at_found number_of n xs rise)

  -- a fact of two lists that differ in one item, at a list and the same with another item in the
  -- place of its number
  pub replaced : (P : List X → List X → Type 0) (x y : X) (xs : List X) → Rise number_of xs
      → find number_of (number_of x) xs ≡ Some y
      → ((before after : List X) → P (before ++ (y ∷ after)) (before ++ (x ∷ after)))
      → P xs (put number_of x xs)
  unfolding set_at
  replaced P x y xs rise found at =
      subst (λ ys. P ys (put number_of x xs)) (around (number_of x) y xs rise found)
      (at (below number_of (number_of x) xs) (above number_of (number_of x) xs))

  -- what holds of all items, with another in its place and without one
  pub All-put : (P : X → Type 0) (x : X) (xs : List X) → All P xs → P x → All P (put number_of x xs)
  unfolding set_at
  All-put P x xs h k =
      All-append P (below number_of (number_of x) xs) (x ∷ above number_of (number_of x) xs)
      (All-filter (λ y. nat_lt (number_of y) (number_of x)) P xs h)
      (All-cons P x (above number_of (number_of x) xs) k
      (All-filter (λ y. nat_lt (number_of x) (number_of y)) P xs h))

  pub All-without : (P : X → Type 0) (n : ℕ) (xs : List X) → All P xs
      → All P (without number_of n xs)
  unfolding set_at
  All-without P n xs h =
      All-append P (below number_of n xs) (above number_of n xs)
      (All-filter (λ y. nat_lt (number_of y) n) P xs h)
      (All-filter (λ y. nat_lt n (number_of y)) P xs h)

  pub AllPairs-without : (R : X → X → Type 0) (n : ℕ) (xs : List X) → Rise number_of xs
      → AllPairs R xs → AllPairs R (without number_of n xs)
  AllPairs-without R n xs rise h =
      subst (AllPairs R) (sym (without-filter number_of n xs rise))
      (AllPairs-filter R (λ x. not (number_of x == n)) xs h)

  -- sums over the items
  pub sum_put : (f : X → ℕ) (x y : X) (xs : List X) → Rise number_of xs
      → find number_of (number_of x) xs ≡ Some y
      → sum_by f (put number_of x xs) + f y ≡ sum_by f xs + f x
  sum_put f x y xs rise found =
      replaced (λ xs ys. sum_by f ys + f y ≡ sum_by f xs + f x) x y xs rise found (λ before after.
      omega (
        arith,
        sum_by-append f before (x ∷ after),
        sum_by-append f before (y ∷ after),
        sum_by-cons f x after,
        sum_by-cons f y after,
      ))

  pub length_put : (x y : X) (xs : List X) → Rise number_of xs
      → find number_of (number_of x) xs ≡ Some y → length (put number_of x xs) ≡ length xs
  length_put x y xs rise found =
      replaced (λ xs ys. length ys ≡ length xs) x y xs rise found
      (λ before after. length-append before (x ∷ after)
      ∙ sym (length-append before (y ∷ after)))

  pub sum_without : (f : X → ℕ) (n : ℕ) (xs : List X) → Rise number_of xs
      → sum_by f (without number_of n xs) ≤ sum_by f xs
  sum_without f n xs rise =
      rw (without-filter number_of n xs rise) (sum_filter f (λ x. not (number_of x == n)) xs)

  pub length_without : (n : ℕ) (xs : List X) → Rise number_of xs
      → length (without number_of n xs) ≤ length xs
  length_without n xs rise =
      rw (without-filter number_of n xs rise) (length_filter (λ x. not (number_of x == n)) xs)

  -- what is set at the number of an item that stands there
  pub set_at_around : (P : List X → List X → Type 0) (n : ℕ) (new : Option X) (y : X) (xs : List X)
      → Rise number_of xs → find number_of n xs ≡ Some y
      → ((before after : List X)
      → P (before ++ (y ∷ after)) (before ++ (option_to_list new ++ after)))
      → P xs (set_at number_of n new xs)
  unfolding set_at
  set_at_around P n new y xs rise found at = subst (λ ys. P ys (set_at number_of n new xs))
      (around n y xs rise found) (at (below number_of n xs) (above number_of n xs))
