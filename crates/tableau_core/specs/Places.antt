-- Where a row has a number that isn't 0.
use Rattle.std.specs.Prelude.{◌≡◌, ℕ, ◌<◌, ◌⊎◌, List, length, slice_index}
use Rattle.ratio_core.specs.Rational.{Rational, zero_ℚ}
use Rattle.tableau_core.specs.Row.{cell}

-- these are the places of the row's numbers that aren't 0
pub record CoversNonzeros (places : List ℕ) (row : List Rational) : Type 0 where
  pub within : (k : ℕ) → k < length places → slice_index places k < length row
  pub nonzero : (k : ℕ) → k < length places → ¬ (cell row (slice_index places k) ≡ zero_ℚ)
  pub found : (j : ℕ) → j < length row →
      (cell row j ≡ zero_ℚ) ⊎ ((k : ℕ) × (k < length places) × (slice_index places k ≡ j))
