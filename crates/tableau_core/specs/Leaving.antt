-- Which row leaves, by the numbers of rows that are kept whole.
use Rattle.std.specs.Prelude.{ℕ, ◌<◌, Bool, ◌&&◌, ◌||◌, nat_lt, List, length, slice_index_or}
use Rattle.ratio_core.specs.Rational.{Rational, rational_eq, zero_ℚ, ◌/ℚ◌, ◌‹ℚ◌}
use Rattle.simplex_form.specs.Turns.{is_below}
use Rattle.tableau_core.specs.declared.kept.Row.{Row}
use Rattle.tableau_core.specs.Row.{cell}
use Rattle.tableau_core.specs.Rows.{now_at}

-- the ratio of a row's right side to its entry of column q
abbrev pub ratio_of : ℕ → ℕ → List Rational → Rational
ratio_of side q row = cell row side /ℚ cell row q

-- by a lower ratio, and of equal ones where the basic column is lower
abbrev pub comes_before : Rational → Rational → Bool → Bool
comes_before p q is_lower = is_below p q || rational_eq p q && is_lower

abbrev pub may_leave : List Row → ℕ → ℕ → Bool
may_leave rows q i = is_below zero_ℚ (cell (now_at rows i) q)

abbrev pub leaves_before : List Row → List ℕ → ℕ → ℕ → ℕ → ℕ → Bool
leaves_before rows basis side q i k =
    comes_before (ratio_of side q (now_at rows i)) (ratio_of side q (now_at rows k))
    (nat_lt (slice_index_or basis i 0) (slice_index_or basis k 0))

-- row k may leave
pub record IsCandidate (rows : List Row) (q k : ℕ) : Type 0 where
  pub within : k < length rows
  pub above : zero_ℚ ‹ℚ cell (now_at rows k) q
