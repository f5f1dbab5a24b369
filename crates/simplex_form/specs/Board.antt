-- The board of a basis: what is read from the original columns by its inverse.
use Rattle.std.specs.Prelude.{ℕ, slice_set}
use Rattle.ratio_core.specs.Rational.{Rational, ◌*ℚ◌, ◌-ℚ◌}
use Rattle.simplex_form.specs.BoundedSums.{delta, sum_to}
use Rattle.simplex_form.specs.Form.{Form, column}
use Rattle.simplex_form.specs.declared.turn.Phase.{Phase}
use Rattle.simplex_form.specs.Basis.{BasisState, basic, pivoted, times}

-- the entry of column j in row i
abbrev pub entry : Form → BasisState → ℕ → ℕ → Rational
entry F s j i = times F.rows s.inverse (column F j) i

-- the right side of row i
abbrev pub right_side : Form → BasisState → ℕ → Rational
right_side F s i = times F.rows s.inverse F.right i

-- the price of column j: its cost without what its entries cost
abbrev pub price : Form → BasisState → (ℕ → Rational) → ℕ → Rational
price F s cost j = cost j -ℚ sum_to F.rows (λ i. cost (basic s i) *ℚ entry F s j i)

-- column q enters in row r, by row operations on the inverse
unfoldable pub pivot : Form → BasisState → Phase → ℕ → ℕ → BasisState
pivot F s phase r q = record {
  phase = phase;
  basis = slice_set s.basis r q;
  inverse = λ i k. pivoted r (entry F s q) (λ row. s.inverse row k) i;
}

-- ---- what is read off at the end

-- the point: a basic column has its row's right side, and any other is 0
abbrev pub point : Form → BasisState → ℕ → Rational
point F s j = sum_to F.rows (λ i. delta (basic s i) j *ℚ right_side F s i)

-- the ray of the entering column q: 1 there, and the negated entry at each basic column
abbrev pub ray : Form → BasisState → ℕ → ℕ → Rational
ray F s q j = delta q j -ℚ sum_to F.rows (λ i. delta (basic s i) j *ℚ entry F s q i)

-- the multiplier of row k: the basic costs times the inverse's column
abbrev pub multiplier : Form → BasisState → (ℕ → Rational) → ℕ → Rational
multiplier F s cost k = sum_to F.rows (λ i. cost (basic s i) *ℚ s.inverse i k)
