-- What a pivot makes of a row of numbers.
use Rattle.std.specs.Prelude.{◌≡◌, ℕ, ◌<◌, ◌≤◌, Bool, List, length, slice_index, slice_index_or}
use Rattle.ratio_core.specs.Rational.{Fits, Rational, zero_ℚ, ◌*ℚ◌, ◌-ℚ◌, ◌/ℚ◌}
use Rattle.tableau_core.specs.BoardNumbers.{differences_fit}

-- the j-th number of a row
abbrev pub cell : List Rational → ℕ → Rational
cell row j = slice_index_or row j zero_ℚ

-- each number of a row fits in 128 bits
abbrev pub AllFit : List Rational → Type 0
AllFit row = (j : ℕ) → Fits (cell row j)

-- each number is divided
pub record IsDivided (by : Rational) (row next : List Rational) : Type 0 where
  pub long : length next ≡ length row
  pub cells : (j : ℕ) → j < length row → cell next j ≡ cell row j /ℚ by

-- each product and difference fits of a row that is lowered by its entry of column q
abbrev pub lowering_fits : ℕ → List Rational → List Rational → Bool
lowering_fits q step row = differences_fit (length row) (cell row) (cell row q) (cell step)

-- each number is lowered by a multiple of the step's
pub record IsLowered (by : Rational) (step row next : List Rational) : Type 0 where
  pub long : length next ≡ length row
  pub cells : (j : ℕ) → j < length row → cell next j ≡ cell row j -ℚ by *ℚ cell step j

-- where the step isn't 0, the next number is the row's lowered by a multiple of the step's
pub record IsLoweredBeside (by : Rational) (step row next : List Rational) : Type 0 where
  pub long : length next ≡ length row
  pub cells : (j : ℕ) → j < length row → ¬ (cell step j ≡ zero_ℚ) →
      cell next j ≡ cell row j -ℚ by *ℚ cell step j

-- what changes is worked out, unless the row's entry of column q is 0, so that all stays
abbrev pub IsPrepared : ℕ → List Rational → List Rational → List Rational → Type 0
IsPrepared q step row next = ¬ (cell row q ≡ zero_ℚ) → IsLoweredBeside (cell row q) step row next

-- the numbers at the first n places are those made for them, and each other is as it was
pub record IsPutAt (places : List ℕ) (n : ℕ) (made : ℕ → Rational) (old new : List Rational) :
    Type 0 where
  pub long : length new ≡ length old
  pub put : (k : ℕ) → k < n → slice_index places k < length old →
      cell new (slice_index places k) ≡ made (slice_index places k)
  pub others : (j : ℕ) → ((k : ℕ) → k < n → ¬ (slice_index places k ≡ j)) →
      cell new j ≡ cell old j

-- the j-th number x of the first n is now f j x, and each other is as it was
pub record IsChanged (f : ℕ → Rational → Rational) (n : ℕ) (old new : List Rational) : Type 0 where
  pub long : length new ≡ length old
  pub changed : (j : ℕ) → j < n → cell new j ≡ f j (cell old j)
  pub others : (j : ℕ) → n ≤ j → cell new j ≡ cell old j
