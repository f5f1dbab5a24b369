-- What of a pivot and of the start has to fit in 128 bits, row by row.
use Rattle.std.specs.Prelude.{ℕ, Bool, true, false, ◌&&◌, ◌||◌, not, nat_eq}
use Rattle.ratio_core.specs.Rational.{Rational, fits, neg_ℚ, sum_fits, ◌*ℚ◌, ◌/ℚ◌}
use Rattle.simplex_form.specs.declared.turn.Phase.{Phase}
use Rattle.simplex_form.specs.declared.turn.Phase.TheVariants.{First}
use Rattle.simplex_form.specs.declared.turn.Turn.{Turn}
use Rattle.simplex_form.specs.declared.turn.Turn.TheVariants.{Pivot, Stuck}
use Rattle.simplex_form.specs.BoundedSums.{sum_to}
use Rattle.simplex_form.specs.Search.{all_below}
use Rattle.simplex_form.specs.Form.{Form}
use Rattle.simplex_form.specs.Readings.{Readings, columns, quotient}

-- the first price of a real column at the start is minus the sum of its entries, added from the
-- first row on
abbrev pub first_sum_fits : Form → ℕ → Bool
first_sum_fits F j = all_below F.rows (λ i. sum_fits (sum_to i (λ k. F.matrix k j)) (F.matrix i j))

abbrev pub start_fits : Form → Bool
start_fits F = all_below F.reals (first_sum_fits F)

-- ---- a pivot

-- the pivot's row is divided by its entry
abbrev pub divided_row_fits : Readings → ℕ → ℕ → Bool
divided_row_fits R r q =
    all_below (columns R) (λ j. fits (quotient R r q j)) && fits (R.right r /ℚ R.entry q r)

-- a number a is lowered by e times t
abbrev pub lowered_fits : Rational → Rational → Rational → Bool
lowered_fits a e t = fits (e *ℚ t) && sum_fits a (neg_ℚ (e *ℚ t))

-- another row is lowered by its entry times the pivot's new row
abbrev pub lowered_row_fits : Readings → ℕ → ℕ → ℕ → Bool
lowered_row_fits R r q i =
    all_below (columns R) (λ j. lowered_fits (R.entry j i) (R.entry q i) (quotient R r q j))
    && lowered_fits (R.right i) (R.entry q i) (R.right r /ℚ R.entry q r)

-- and so is a cost row
abbrev pub lowered_prices_fit : Readings → (ℕ → Rational) → ℕ → ℕ → Bool
lowered_prices_fit R price r q =
    all_below (columns R) (λ j. lowered_fits (price j) (price q) (quotient R r q j))

-- each quotient, product and difference of the pivot fits, of the first cost row where it is in use
abbrev pub pivot_fits : Bool → Readings → ℕ → ℕ → Bool
pivot_fits in_first R r q =
    divided_row_fits R r q
    && all_below R.rows (λ i. nat_eq i r || lowered_row_fits R r q i)
    && (not in_first || lowered_prices_fit R R.first_price r q)
    && lowered_prices_fit R R.second_price r q

-- the first cost row is in use in the first phase alone
abbrev pub uses_first : Phase → Bool
uses_first First = true
uses_first _ = false

-- the turn's step fits; an end has none
abbrev pub turn_fits : Readings → Turn → Bool
turn_fits R (Pivot phase r q) = pivot_fits (uses_first phase) R r q
turn_fits R Stuck = false
turn_fits R _ = true
