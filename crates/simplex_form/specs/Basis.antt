-- A basis, and the matrix that makes its columns the unit matrix.
use Rattle.std.specs.Prelude.{◌≡◌, ℕ, ◌<◌, ◌+◌, List, length, slice_index, nat_eq, if◌then◌else◌}
use Rattle.std.specs.List.{range_with_len}
use Rattle.ratio_core.specs.Rational.{Rational, inverse_ℚ, ◌*ℚ◌, ◌-ℚ◌}
use Rattle.simplex_form.specs.declared.turn.Phase.{Phase}
use Rattle.simplex_form.specs.declared.turn.Phase.TheVariants.{First}
use Rattle.simplex_form.specs.BoundedSums.{sum_to, delta}
use Rattle.simplex_form.specs.Form.{Form, column}

-- row i of the matrix M times the vector v of n numbers
abbrev pub times : ℕ → (ℕ → ℕ → Rational) → (ℕ → Rational) → ℕ → Rational
times n M v i = sum_to n (λ k. M i k *ℚ v k)

-- M makes the basic columns, of which `basic i` stands in row i, the unit matrix, and they span
-- each vector
pub record IsInverse (n : ℕ) (column : ℕ → ℕ → Rational) (basic : ℕ → ℕ)
    (M : ℕ → ℕ → Rational) : Type 0 where
  pub units : (i k : ℕ) → i < n → k < n → times n M (column (basic k)) i ≡ delta i k
  pub spans : (v : ℕ → Rational) (k : ℕ) → k < n →
      sum_to n (λ i. column (basic i) k *ℚ times n M v i) ≡ v k

-- a basis of the trail with its phase, and its inverse, which the basis determines
pub record BasisState : Type 0 where
  pub phase : Phase
  pub basis : List ℕ
  pub inverse : ℕ → ℕ → Rational

-- the basic column of row i
abbrev pub basic : BasisState → ℕ → ℕ
basic s i = slice_index s.basis i

-- the basis has a column for each row, and the inverse is its inverse
pub record IsBasis (F : Form) (s : BasisState) : Type 0 where
  pub long : length s.basis ≡ F.rows
  pub within : (i : ℕ) → i < F.rows → basic s i < F.reals + F.rows
  pub inverse : IsInverse F.rows (column F) (basic s) s.inverse

-- the artificial columns and the unit matrix
unfoldable pub start : Form → BasisState
start F = record {
  phase = First;
  basis = range_with_len F.reals F.rows;
  inverse = λ i k. delta i k;
}

-- what a pivot in row r makes of the numbers w of a column, where the entering column has the
-- entries e
unfoldable pub pivoted : ℕ → (ℕ → Rational) → (ℕ → Rational) → ℕ → Rational
pivoted r e w i =
    if nat_eq i r then w r *ℚ inverse_ℚ (e r) else w i -ℚ e i *ℚ (w r *ℚ inverse_ℚ (e r))
