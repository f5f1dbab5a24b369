-- Lists that are read item by item.
use Rattle.std.specs.Prelude.{List, [], ◌∷◌, ◌++◌, Option, Some, option_and_then}
use Rattle.std.specs.Option.{option_map}

infixl 10 ◌>>=◌
abbrev pub ◌>>=◌ : {A B : Type 0} → Option A → (A → Option B) → Option B
o >>= f = option_and_then f o

-- what f gives of each, where it gives something of all
abbrev pub each : {X Y : Type 0} → (X → Option Y) → List X → Option (List Y)
each f [] = Some []
each f (x ∷ xs) = do
  y ← f x
  ys ← each f xs
  Some (y ∷ ys)

-- what was made so far, and what f gives of each item that is left
abbrev pub each_after : {X Y : Type 0} → (X → Option Y) → List Y → List X → Option (List Y)
each_after f made xs = option_map (λ ys. made ++ ys) (each f xs)
