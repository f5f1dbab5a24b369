-- What items are: those of models and of bridges alike.
use Rattle.std.specs.Prelude.{◌≡◌, ℕ, ◌≤◌, true, false, List, ◌++◌, All, length}
use Rattle.ratio_core.specs.Rational.{zero_ℚ}
use Rattle.aff_core.specs.Address.{Address}
use Rattle.aff_core.specs.Function.{Function, coefficient}
use Rattle.set_core.specs.Shapes.{is_scalar, IsSetOf}
use Rattle.item_core.specs.declared.item.Body.{Body}
use Rattle.item_core.specs.declared.item.Body.TheVariants.{Plain, Affine, PlainVec, AffineVec}
use Rattle.item_core.specs.declared.item.Item.{Item}
use Rattle.item_core.specs.Item.{functions_of, is_group, set_of}

-- a number's function meets a set of numbers, and a vector's a set of vectors
abbrev pub FitsItsFunction : Body → Type 0
FitsItsFunction (Plain var set) = is_scalar set ≡ true
FitsItsFunction (Affine func set) = is_scalar set ≡ true
FitsItsFunction (PlainVec vars set) = is_scalar set ≡ false
FitsItsFunction (AffineVec func set) = is_scalar set ≡ false
FitsItsFunction _ = Unit {0}

-- an address that begins with another
abbrev pub below : Address → List ℕ → Address
below at rest = record at { positions = at.positions ++ rest }

-- the function names no variable at or below the address
abbrev pub NamesNothingBelow : Address → Function → Type 0
NamesNothingBelow at f = (rest : List ℕ) → coefficient f (below at rest) ≡ zero_ℚ

pub record IsValidItem (item : Item) : Type 0 where
  pub function : FitsItsFunction item.body
  pub some : 1 ≤ length (functions_of item.body)
  pub at_most : length (functions_of item.body) ≤ 32767
  pub set : IsSetOf (length (functions_of item.body)) (set_of item.body)
  pub depth : length item.at.positions ≤ 38
  pub others : is_group item.body ≡ false → All (NamesNothingBelow item.at) (functions_of item.body)
