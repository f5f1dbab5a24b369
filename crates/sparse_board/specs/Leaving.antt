-- Which row leaves, by the numbers of rows.
use Rattle.std.specs.Prelude.{◌≡◌, ℕ, ◌<◌, ◌≤◌, Bool, IfSome, nat_lt, List, length, Option, slice_index_or}
use Rattle.ratio_core.specs.Rational.{zero_ℚ, ◌/ℚ◌, ◌‹ℚ◌}
use Rattle.simplex_form.specs.Search.{best_below}
use Rattle.simplex_form.specs.Turns.{is_below}
use Rattle.tableau_core.specs.Leaving.{comes_before}
use Rattle.sparse_board.specs.declared.row.Row.{Row}
use Rattle.sparse_board.specs.Rows.{number_in_row}

abbrev pub may_leave : List Row → ℕ → ℕ → Bool
may_leave rows q i = is_below zero_ℚ (number_in_row rows i q)

abbrev pub leaves_before : List Row → List ℕ → ℕ → ℕ → ℕ → ℕ → Bool
leaves_before rows basis side q i k =
    comes_before (number_in_row rows i side /ℚ number_in_row rows i q)
    (number_in_row rows k side /ℚ number_in_row rows k q)
    (nat_lt (slice_index_or basis i 0) (slice_index_or basis k 0))

-- row k may leave
pub record IsSparseCandidate (rows : List Row) (q k : ℕ) : Type 0 where
  pub within : k < length rows
  pub above : zero_ℚ ‹ℚ number_in_row rows k q

-- the best of the rows below i
pub record IsBestTo (rows : List Row) (basis : List ℕ) (side q i : ℕ) (best : Option ℕ) :
    Type 0 where
  pub within : i ≤ length rows
  pub value : best ≡ best_below i (may_leave rows q) (leaves_before rows basis side q)
  pub candidate : IfSome best (λ k. IsSparseCandidate rows q k)
