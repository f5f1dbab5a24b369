-- The first of a list, as many as pass.
use Rattle.std.specs.Prelude.{◌≡◌, List, All, Some, length, map, slice_get, take}

-- f of the first of a list, up to the first that isn't P
pub record IsAsFarAs {X Y : Type 0} (P : X → Type 0) (f : X → Y) (xs : List X)
    (made : List Y) : Type 0 where
  pub fits : All P (take (length made) xs)
  pub values : made ≡ map f (take (length made) xs)
  pub stops : (x : X) → slice_get xs (length made) ≡ Some x → ¬ (P x)
