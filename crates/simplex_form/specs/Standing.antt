-- What the choices of the rule say of what is read; what stands at each basis of the trail; and
-- what each turn says there.
use Rattle.std.specs.Prelude.{◌≡◌, ℕ, ◌<◌, ◌≤◌, ◌⊎◌}
use Rattle.ratio_core.specs.Rational.{Rational, zero_ℚ, ◌*ℚ◌, ◌≤ℚ◌, ◌‹ℚ◌}
use Rattle.simplex_form.specs.declared.turn.Phase.{Phase}
use Rattle.simplex_form.specs.declared.turn.Phase.TheVariants.{First, Second, Sweep}
use Rattle.simplex_form.specs.declared.turn.Turn.{Turn}
use Rattle.simplex_form.specs.declared.turn.Turn.TheVariants.{Infeasible, Optimal, Pivot, Stuck, Unbounded}
use Rattle.simplex_form.specs.BoundedSums.{sum_to}
use Rattle.simplex_form.specs.Form.{Form, IsFormInfeasible, IsFormOptimal, IsFormUnbounded, first_cost, second_cost}
use Rattle.simplex_form.specs.Basis.{BasisState, IsBasis, basic}
use Rattle.simplex_form.specs.Board.{multiplier, point, ray, right_side}
use Rattle.simplex_form.specs.Readings.{Readings, basic_at, readings}
use Rattle.simplex_form.specs.Turns.{ratio}

-- ---- the rule's choices

abbrev pub HasNoNegativePrice : Readings → (ℕ → Rational) → Type 0
HasNoNegativePrice R price = (j : ℕ) → j < R.reals → zero_ℚ ≤ℚ price j

-- q is the least real column of negative price
pub record Enters (R : Readings) (price : ℕ → Rational) (q : ℕ) : Type 0 where
  pub real : q < R.reals
  pub negative : price q ‹ℚ zero_ℚ
  pub least : (j : ℕ) → j < q → zero_ℚ ≤ℚ price j

abbrev pub HasNoPositiveEntry : Readings → ℕ → Type 0
HasNoPositiveEntry R q = (i : ℕ) → i < R.rows → R.entry q i ≤ℚ zero_ℚ

-- a ratio with its basic column comes before another: it is less, or it is equal and the column no
-- greater
abbrev pub IsRatioBefore : Rational → ℕ → Rational → ℕ → Type 0
IsRatioBefore p a q b = (p ‹ℚ q) ⊎ ((p ≡ q) × (a ≤ b))

-- r is the row of least ratio among those of positive entry, and of these the one of least basic
-- column
pub record LeavesBasis (R : Readings) (q r : ℕ) : Type 0 where
  pub row : r < R.rows
  pub above : zero_ℚ ‹ℚ R.entry q r
  pub least : (i : ℕ) → i < R.rows → zero_ℚ ‹ℚ R.entry q i →
      IsRatioBefore (ratio R q r) (basic_at R r) (ratio R q i) (basic_at R i)

-- no row of an artificial column has a real entry that isn't 0
abbrev pub IsSwept : Readings → Type 0
IsSwept R = (i j : ℕ) → i < R.rows → R.reals ≤ basic_at R i → j < R.reals → R.entry j i ≡ zero_ℚ

-- r is the least row of an artificial column that has such an entry, and q the least column of one
pub record Sweeps (R : Readings) (r q : ℕ) : Type 0 where
  pub row : r < R.rows
  pub artificial : R.reals ≤ basic_at R r
  pub real : q < R.reals
  pub other : ¬ (R.entry q r ≡ zero_ℚ)
  pub least_column : (j : ℕ) → j < q → R.entry j r ≡ zero_ℚ
  pub least_row : (i j : ℕ) → i < r → R.reals ≤ basic_at R i → j < R.reals → R.entry j i ≡ zero_ℚ

-- each artificial column has the value 0
abbrev pub IsDrained : Readings → Type 0
IsDrained R = (i : ℕ) → i < R.rows → R.reals ≤ basic_at R i → R.right i ≡ zero_ℚ

-- ---- the trail's bases

-- what stands from the sweep on, and what in the second phase
abbrev pub StandsIn : Phase → Readings → Type 0
StandsIn First R = Unit {0}
StandsIn Sweep R = IsDrained R
StandsIn Second R = IsDrained R × IsSwept R

-- a basis with no negative right side, where what its phase needs stands
pub record StandsAtBasis (F : Form) (s : BasisState) : Type 0 where
  pub basis : IsBasis F s
  pub nonneg : (i : ℕ) → i < F.rows → zero_ℚ ≤ℚ right_side F s i
  pub phase : StandsIn s.phase (readings F s)

-- the sum of the artificial columns' values
abbrev pub infeasibility : Form → BasisState → Rational
infeasibility F s = sum_to F.rows (λ i. first_cost F (basic s i) *ℚ right_side F s i)

-- what a turn says of the basis
abbrev pub TurnSays : Form → BasisState → Turn → Type 0
TurnSays F s (Pivot First r q) = let R = readings F s in Enters R R.first_price q × LeavesBasis R q r
TurnSays F s (Pivot Sweep r q) = let R = readings F s in IsDrained R × Sweeps R r q
TurnSays F s (Pivot Second r q) =
    let R = readings F s in IsDrained R × IsSwept R × Enters R R.second_price q × LeavesBasis R q r
TurnSays F s Stuck =
    let R = readings F s in HasNoNegativePrice R R.first_price × (zero_ℚ ‹ℚ infeasibility F s)
TurnSays F s Infeasible =
    let R = readings F s in HasNoNegativePrice R R.first_price × (zero_ℚ ‹ℚ infeasibility F s)
TurnSays F s (Unbounded q) =
    let R = readings F s in
    IsDrained R × IsSwept R × Enters R R.second_price q × HasNoPositiveEntry R q
TurnSays F s Optimal =
    let R = readings F s in IsDrained R × IsSwept R × HasNoNegativePrice R R.second_price

-- the right answer to each end
abbrev pub HasRightAnswer : Form → BasisState → Turn → Type 0
HasRightAnswer F s Infeasible = IsFormInfeasible F (multiplier F s (first_cost F))
HasRightAnswer F s (Unbounded q) = IsFormUnbounded F (point F s) (ray F s q)
HasRightAnswer F s Optimal = IsFormOptimal F (point F s) (multiplier F s (second_cost F))
HasRightAnswer F s _ = Unit {0}
