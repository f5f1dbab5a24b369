-- The equality form: the least cost of a column of numbers, each at least 0, that meets rows of
-- equations.
use Rattle.std.specs.Prelude.{◌≡◌, ℕ, ◌<◌, ◌-◌, nat_lt, if◌then◌else◌}
use Rattle.ratio_core.specs.Rational.{Rational, one_ℚ, zero_ℚ, ◌*ℚ◌, ◌≤ℚ◌, ◌‹ℚ◌}
use Rattle.simplex_form.specs.BoundedSums.{sum_to, delta}

-- `reals` columns with their costs, and `rows` equations: the matrix by row and column, and the
-- right sides
pub record Form : Type 0 where
  pub rows : ℕ
  pub reals : ℕ
  pub matrix : ℕ → ℕ → Rational
  pub right : ℕ → Rational
  pub costs : ℕ → Rational

-- no right side is below 0
abbrev pub IsStandard : Form → Type 0
IsStandard F = (i : ℕ) → i < F.rows → zero_ℚ ≤ℚ F.right i

-- the j-th column, whose entry in row i is `column F j i`; the artificial ones are the unit matrix
unfoldable pub column : Form → ℕ → ℕ → Rational
column F j i = if nat_lt j F.reals then F.matrix i j else delta (j - F.reals) i

-- the costs of the first phase: an artificial column costs 1, and a real one nothing
unfoldable pub first_cost : Form → ℕ → Rational
first_cost F j = if nat_lt j F.reals then zero_ℚ else one_ℚ

-- the costs of the second phase: an artificial column costs nothing
unfoldable pub second_cost : Form → ℕ → Rational
second_cost F j = if nat_lt j F.reals then F.costs j else zero_ℚ

-- ---- right answers

-- the rows' left sides at x
abbrev pub left_side : Form → (ℕ → Rational) → ℕ → Rational
left_side F x i = sum_to F.reals (λ j. F.matrix i j *ℚ x j)

abbrev pub cost_at : Form → (ℕ → Rational) → Rational
cost_at F x = sum_to F.reals (λ j. F.costs j *ℚ x j)

-- a column of the matrix, or of right sides, weighted by multipliers of the rows
abbrev pub weighted : Form → (ℕ → Rational) → (ℕ → Rational) → Rational
weighted F y v = sum_to F.rows (λ i. y i *ℚ v i)

-- x is at least 0 and meets the equations
pub record IsFormFeasible (F : Form) (x : ℕ → Rational) : Type 0 where
  pub nonneg : (j : ℕ) → j < F.reals → zero_ℚ ≤ℚ x j
  pub meets : (i : ℕ) → i < F.rows → left_side F x i ≡ F.right i

-- x is feasible, no reduced cost is negative, and the multipliers cost what x costs: so no feasible
-- point costs less
pub record IsFormOptimal (F : Form) (x y : ℕ → Rational) : Type 0 where
  pub feasible : IsFormFeasible F x
  pub reduced : (j : ℕ) → j < F.reals → weighted F y (λ i. F.matrix i j) ≤ℚ F.costs j
  pub equal : weighted F y F.right ≡ cost_at F x

-- the multipliers are at most 0 on each column and above 0 on the right sides: so no point is
-- feasible
pub record IsFormInfeasible (F : Form) (y : ℕ → Rational) : Type 0 where
  pub nonpos : (j : ℕ) → j < F.reals → weighted F y (λ i. F.matrix i j) ≤ℚ zero_ℚ
  pub above : zero_ℚ ‹ℚ weighted F y F.right

-- from the feasible x the ray d goes on without end, and the cost falls along it
pub record IsFormUnbounded (F : Form) (x d : ℕ → Rational) : Type 0 where
  pub feasible : IsFormFeasible F x
  pub nonneg : (j : ℕ) → j < F.reals → zero_ℚ ≤ℚ d j
  pub stays : (i : ℕ) → i < F.rows → left_side F d i ≡ zero_ℚ
  pub falls : cost_at F d ‹ℚ zero_ℚ
