-- What is left of a list from a place on.
use Rattle.std.specs.Prelude.{◌≡◌, ℕ, zero, suc, List, [], ◌∷◌, None, drop, slice_get, refl}

pub none_left : {X : Type 0} (i : ℕ) (xs : List X) → slice_get xs i ≡ None → drop i xs ≡ []
none_left zero [] e = refl
none_left (suc i) [] e = refl
none_left zero (x ∷ xs) e = cc
none_left (suc i) (x ∷ xs) e = none_left i xs e
