-- What must fit in 128 bits: each product, and each step of a sum from the left.
use Rattle.std.specs.Prelude.{List, [], ◌∷◌, All}
use Rattle.ratio_core.specs.Rational.{Rational, zero_ℚ, ◌+ℚ◌, ◌*ℚ◌}
use Rattle.aff_core.specs.Arithmetic.{PlusFits, ProductsFit as MultipleFits, scaled, sum_of}
use Rattle.aff_core.specs.Function.{Function, constant_function}
use Rattle.aff_core.specs.Terms.{StepFits}
use Rattle.set_map.specs.Matrices.{Matrix, transposed}

-- ---- numbers

-- the products of what is at equal places, added to a number
unfoldable pub DotFits : Rational → List Rational → List Rational → Type 0
DotFits sum [] v = Unit {0}
DotFits sum (p ∷ w) [] = Unit {0}
DotFits sum (p ∷ w) (q ∷ v) = StepFits sum p q × DotFits (sum +ℚ p *ℚ q) w v

abbrev pub AppliedFits : Matrix → List Rational → Type 0
AppliedFits m v = All (λ row. DotFits zero_ℚ row v) m

abbrev pub ProductFits : Matrix → Matrix → Type 0
ProductFits a b = All (AppliedFits (transposed b)) a

-- both products
pub record BothProductsFit (a b : Matrix) : Type 0 where
  pub right : ProductFits a b
  pub left : ProductFits b a

-- ---- functions

-- a multiple, and its sum with what is there
pub record MultipleAdds (sum : Function) (q : Rational) (f : Function) : Type 0 where
  pub multiple : MultipleFits q f
  pub total : PlusFits sum (scaled q f)

unfoldable pub CombinationFits : Function → List Rational → List Function → Type 0
CombinationFits sum [] fs = Unit {0}
CombinationFits sum (q ∷ w) [] = Unit {0}
CombinationFits sum (q ∷ w) (f ∷ fs) =
    MultipleAdds sum q f × CombinationFits (sum_of sum (scaled q f)) w fs

abbrev pub MappedFits : Matrix → List Function → Type 0
MappedFits m fs = All (λ row. CombinationFits (constant_function zero_ℚ) row fs) m
