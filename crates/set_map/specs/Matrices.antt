-- Matrices, each the list of its rows.
--     applied m v      M v, the product of each row with v
--     transposed m     the columns of a square matrix
--     product a b      A B, whose entries are the products of the rows of A with the columns of B
--     unit n           the unit matrix
use Rattle.std.specs.Prelude.{◌≡◌, ℕ, List, All, length, map, replicate, slice_index_or, slice_set, if◌then◌else◌, ◌==◌}
use Rattle.std.specs.List.{range_with_len}
use Rattle.ratio_core.specs.Rational.{Rational, one_ℚ, zero_ℚ}
use Rattle.rational_laws.specs.Dot.{dot}

abbrev pub Matrix : Type 0
Matrix = List (List Rational)

-- n rows of n numbers
pub record IsSquare (n : ℕ) (m : Matrix) : Type 0 where
  pub rows : length m ≡ n
  pub numbers : All (λ row. length row ≡ n) m

-- square matrices of one size
pub record ArePair (a b : Matrix) : Type 0 where
  pub first : IsSquare (length a) a
  pub second : IsSquare (length a) b

abbrev pub applied : Matrix → List Rational → List Rational
applied m v = map (λ row. dot row v) m

-- the number of each row at a place
abbrev pub column : Matrix → ℕ → List Rational
column m i = map (λ row. slice_index_or row i zero_ℚ) m

abbrev pub transposed : Matrix → Matrix
transposed m = map (column m) (range_with_len 0 (length m))

abbrev pub product : Matrix → Matrix → Matrix
product a b = map (applied (transposed b)) a

-- 1 at a place, and 0 at the others
abbrev pub unit_row : ℕ → ℕ → List Rational
unit_row n i = slice_set (replicate n zero_ℚ) i one_ℚ

-- the number at place j of the row with place i
abbrev pub unit_number : ℕ → ℕ → Rational
unit_number i j = if i == j then one_ℚ else zero_ℚ

abbrev pub unit : ℕ → Matrix
unit n = map (unit_row n) (range_with_len 0 n)

-- each product is the unit matrix
pub record AreInverse (a b : Matrix) : Type 0 where
  pub right : product a b ≡ unit (length a)
  pub left : product b a ≡ unit (length a)
