-- Bland's rule: which column enters and which row leaves by what is read, and where the trail ends.
use Rattle.std.specs.Prelude.{ℕ, ◌+◌, Bool, ◌&&◌, ◌||◌, not, nat_lt, nat_le, Option, Some, None, if◌then◌else◌}
use Rattle.std.proofs.Common.{is_lt}
use Rattle.ratio_core.specs.Rational.{Rational, neg_ℚ, one_ℚ, sum_fits, rational_cmp, rational_eq, zero_ℚ, ◌/ℚ◌}
use Rattle.simplex_form.specs.declared.turn.Phase.{Phase}
use Rattle.simplex_form.specs.declared.turn.Phase.TheVariants.{First, Second, Sweep}
use Rattle.simplex_form.specs.declared.turn.Turn.{Turn}
use Rattle.simplex_form.specs.declared.turn.Turn.TheVariants.{Infeasible, Optimal, Pivot, Stuck, Unbounded}
use Rattle.simplex_form.specs.Search.{all_below, best_below, least_below, least_row, some_below}
use Rattle.simplex_form.specs.Form.{Form}
use Rattle.simplex_form.specs.Basis.{BasisState}
use Rattle.simplex_form.specs.Readings.{Readings, basic_at, readings}

abbrev pub is_below : Rational → Rational → Bool
is_below p q = is_lt (rational_cmp p q)

-- the least real column of negative price enters
abbrev pub entering : Readings → (ℕ → Rational) → Option ℕ
entering R price = least_below R.reals (λ j. is_below (price j) zero_ℚ)

-- the ratio of row i's right side to its entry of column q
abbrev pub ratio : Readings → ℕ → ℕ → Rational
ratio R q i = R.right i /ℚ R.entry q i

-- row i leaves before row k: by a lower ratio, and of equal ones by the lower basic column
abbrev pub leaves_before : Readings → ℕ → ℕ → ℕ → Bool
leaves_before R q i k =
    is_below (ratio R q i) (ratio R q k)
    || rational_eq (ratio R q i) (ratio R q k) && nat_lt (basic_at R i) (basic_at R k)

-- a row of positive entry may leave
abbrev pub may_leave : Readings → ℕ → ℕ → Bool
may_leave R q i = is_below zero_ℚ (R.entry q i)

-- the row of least ratio among those of positive entry
abbrev pub leaving : Readings → ℕ → Option ℕ
leaving R q = best_below R.rows (may_leave R q) (leaves_before R q)

abbrev pub is_artificial : Readings → ℕ → Bool
is_artificial R j = nat_le R.reals j

-- the least real column with an entry in row r that isn't 0
abbrev pub swept_column : Readings → ℕ → Option ℕ
swept_column R r = least_below R.reals (λ j. not (rational_eq (R.entry j r) zero_ℚ))

abbrev pub swept_in : Readings → ℕ → Option ℕ
swept_in R i = if is_artificial R (basic_at R i) then swept_column R i else None

-- the least row with a basic artificial column and such an entry, with that entry's column
abbrev pub swept_entry : Readings → Option (ℕ × ℕ)
swept_entry R = least_row R.rows (swept_in R)

-- row i has a basic artificial column, and its value is above 0
abbrev pub is_above : Readings → ℕ → Bool
is_above R i = is_artificial R (basic_at R i) && is_below zero_ℚ (R.right i)

-- some artificial column has a value above 0
abbrev pub is_left_above : Readings → Bool
is_left_above R = some_below R.rows (is_above R)

-- the multiplier of a row at the end of the first phase is 1 without its artificial column's price:
-- each difference fits
abbrev pub multipliers_fit : Readings → Bool
multipliers_fit R = all_below R.rows (λ k. sum_fits one_ℚ (neg_ℚ (R.first_price (R.reals + k))))

-- ---- the turn: a pivot, or an end, or `Stuck` where multipliers that show infeasibility don't fit

-- column q enters where a row leaves
abbrev pub enters : Phase → ℕ → Option ℕ → Turn
enters phase q None = Unbounded q
enters phase q (Some r) = Pivot phase r q

abbrev pub second_turn : Readings → Option ℕ → Turn
second_turn R None = Optimal
second_turn R (Some q) = enters Second q (leaving R q)

abbrev pub sweep_turn : Readings → Option (ℕ × ℕ) → Turn
sweep_turn R None = second_turn R (entering R R.second_price)
sweep_turn R (Some found) = Pivot Sweep found.0 found.1

abbrev pub infeasible_turn : Bool → Turn
infeasible_turn fit = if fit then Infeasible else Stuck

abbrev pub first_turn : Readings → Option ℕ → Turn
first_turn R None =
    if is_left_above R then infeasible_turn (multipliers_fit R) else sweep_turn R (swept_entry R)
first_turn R (Some q) = enters First q (leaving R q)

-- what is done in a phase by what is read
abbrev pub turn_in : Phase → Readings → Turn
turn_in First R = first_turn R (entering R R.first_price)
turn_in Sweep R = sweep_turn R (swept_entry R)
turn_in Second R = second_turn R (entering R R.second_price)

-- what is done at the basis
abbrev pub turn : Form → BasisState → Turn
turn F s = turn_in s.phase (readings F s)
