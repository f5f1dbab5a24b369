-- What stands at a place of a list.
use Rattle.std.specs.Prelude.{◌≡◌, ℕ, zero, suc, List, [], ◌∷◌, map, Some, None, slice_get, slice_index_or, refl}

pub mapped : {A B : Type 0} (f : A → B) (xs : List A) (n : ℕ) (x : A) (d : B)
    → slice_get xs n ≡ Some x → slice_index_or (map f xs) n d ≡ f x
mapped f [] n x d e = cc
mapped f (y ∷ xs) zero x d e = let same : y ≡ x = cc in cc
mapped f (y ∷ xs) (suc n) x d e = mapped f xs n x d e

pub past : {A B : Type 0} (f : A → B) (xs : List A) (n : ℕ) (d : B) → slice_get xs n ≡ None
    → slice_index_or (map f xs) n d ≡ d
past f [] n d e = refl
past f (y ∷ xs) zero d e = cc
past f (y ∷ xs) (suc n) d e = past f xs n d e
