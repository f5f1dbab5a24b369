-- The rows of a board: what stands, and what is worked out for the next.
use Rattle.std.specs.Prelude.{◌≡◌, ℕ, ◌<◌, Bool, ◌||◌, nat_eq, List, [], length, Option, Some, None, slice_get}
use Rattle.ratio_core.specs.Rational.{Rational}
use Rattle.tableau_core.specs.declared.kept.Row.{Row}
use Rattle.tableau_core.specs.BoardNumbers.{BoardNumbers}
use Rattle.tableau_core.specs.Row.{IsLowered, IsPrepared, cell, lowering_fits}
use Rattle.simplex_form.specs.Search.{all_below}

abbrev pub numbers : Option Row → List Rational
numbers None = []
numbers (Some row) = row.now.items

abbrev pub next_numbers : Option Row → List Rational
next_numbers None = []
next_numbers (Some row) = row.next.items

-- the numbers of row i
abbrev pub now_at : List Row → ℕ → List Rational
now_at rows i = numbers (slice_get rows i)

abbrev pub next_at : List Row → ℕ → List Rational
next_at rows i = next_numbers (slice_get rows i)

-- the numbers of the rows, each of which ends with its right side, and of the two cost rows
abbrev pub numbers_in : List Row → List Rational → List Rational → BoardNumbers
numbers_in rows first second = record {
  rows = length rows;
  number = λ i. cell (now_at rows i);
  first = cell first;
  second = cell second;
}

-- each row has n numbers
abbrev pub AreWide : ℕ → List Row → Type 0
AreWide n rows = (i : ℕ) → i < length rows → length (now_at rows i) ≡ n

-- each product and difference of the rows other than r fits
abbrev pub rows_fit : ℕ → ℕ → List Rational → List Row → Bool
rows_fit r q step rows =
    all_below (length rows) (λ i. nat_eq i r || lowering_fits q step (now_at rows i))

abbrev pub ArePrepared : ℕ → ℕ → List Rational → List Row → Type 0
ArePrepared r q step rows =
    (i : ℕ) → i < length rows → ¬ (i ≡ r) → IsPrepared q step (now_at rows i) (next_at rows i)

-- the rows other than r are lowered
abbrev pub AreLowered : ℕ → ℕ → List Rational → List Row → List Row → Type 0
AreLowered r q step before after =
    (i : ℕ) → i < length before → ¬ (i ≡ r) →
    IsLowered (cell (now_at before i) q) step (now_at before i) (now_at after i)
