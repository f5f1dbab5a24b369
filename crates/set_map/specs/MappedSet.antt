-- The set of the vectors that a matrix takes into a cone, by the matrix M, its inverse N and the cone.
--     InMapped s v       M v is in the cone
--     RecMapped s v      M v is in the cone's recession set
--     DualMapped s w     the transpose of N times w is in the cone's dual
--     WeighsMapped s w   w has no negative product with a vector of the set
-- For a cone of vectors the last two say the same (MappedSetLaws), and the least product of a dual with
-- the set's vectors is 0.
use Rattle.std.specs.Prelude.{◌≡◌, List, length}
use Rattle.ratio_core.specs.Rational.{Rational, zero_ℚ, ◌≤ℚ◌}
use Rattle.rational_laws.specs.Dot.{dot}
use Rattle.aff_core.specs.Address.{Address}
use Rattle.aff_core.specs.Function.{Function}
use Rattle.aff_core.specs.FunctionLists.{coefficients, constants}
use Rattle.set_core.specs.declared.set.Set.{Set}
use Rattle.set_core.specs.Membership.{Dual, In, recession}
use Rattle.set_map.specs.Combinations.{combined, mapped}
use Rattle.set_map.specs.Matrices.{Matrix, applied, transposed}

pub record MappedSet : Type 0 where
  pub matrix : Matrix
  pub inverse : Matrix
  pub cone : Set

abbrev pub seen_through : Matrix → Matrix → Set → MappedSet
seen_through matrix inverse cone = record { matrix = matrix; inverse = inverse; cone = cone }

abbrev pub InMapped : MappedSet → List Rational → Type 0
InMapped s v = In s.cone (applied s.matrix v)

abbrev pub RecMapped : MappedSet → List Rational → Type 0
RecMapped s v = In (recession s.cone) (applied s.matrix v)

abbrev pub DualMapped : MappedSet → List Rational → Type 0
DualMapped s w = Dual s.cone (applied (transposed s.inverse) w)

abbrev pub WeighsMapped : MappedSet → List Rational → Type 0
WeighsMapped s w =
    (v : List Rational) → length v ≡ length w → InMapped s v → zero_ℚ ≤ℚ dot w v

-- the adjoint law: duals y of the mapped functions give duals w of the functions. Weighed by them, both
-- come to one function, and if y is in the cone's dual, then w is in the dual of the mapped set.
pub record CarriesBack (s : MappedSet) (fs : List Function) (y w : List Rational) : Type 0 where
  pub size : length w ≡ length fs
  pub same : combined w fs ≡ combined y (mapped s.matrix fs)
  pub adjoint :
      (v : Address) → dot w (coefficients fs v) ≡ dot y (coefficients (mapped s.matrix fs) v)
  pub constants : dot w (constants fs) ≡ dot y (constants (mapped s.matrix fs))
  pub dual : Dual s.cone y → DualMapped s w
