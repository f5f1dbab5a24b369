-- Lists of whole numbers.
use Rattle.std.specs.Prelude.{◌≡◌, ℕ, ◌+◌, ◌*◌, ◌/◌, ◌^◌, ◌<◌, ◌≤◌, List, length, slice_index_or, ℤ, pos, ◌*ℤ◌, unsigned_abs}
use Rattle.std.specs.Int.{◌∣◌}
use Rattle.whole_rows.specs.declared.plan.Measure.{Measure}
use Rattle.ratio_core.specs.Gcd.{gcd}
use Rattle.whole_rows.specs.Over.{lowered_num}

-- the j-th numerator, and `side` past the end
abbrev pub numerator : List ℤ → ℤ → ℕ → ℤ
numerator numbers side j = slice_index_or numbers j side

-- no numerator is larger
pub record AreNumeratorsWithin (bound : ℕ) (numbers : List ℤ) (side : ℤ) : Type 0 where
  pub sizes : (j : ℕ) → unsigned_abs (numerator numbers side j) ≤ bound

-- what stays of a number's size and of a denominator without their common divisor
abbrev pub size_left : ℤ → ℕ → ℕ
size_left b p = unsigned_abs b / gcd (unsigned_abs b) p

abbrev pub over_left : ℤ → ℕ → ℕ
over_left b p = p / gcd (unsigned_abs b) p

-- a number lowered stays below 2^63, with its parts
abbrev pub LoweringFits : ℕ → ℤ → List ℤ → List ℤ → Type 0
LoweringFits over by step numbers = (j : ℕ) → j < length numbers →
    unsigned_abs (slice_index_or numbers j (pos 0)) * over
    + unsigned_abs by * unsigned_abs (slice_index_or step j (pos 0)) < 2 ^ 63

-- the first n numbers are lowered, and each other is as it was
pub record AreNumeratorsLowered (over : ℕ) (by : ℤ) (step : List ℤ) (n : ℕ) (old new : List ℤ) : Type 0 where
  pub long : length new ≡ length old
  pub lowered : (j : ℕ) → j < n →
      slice_index_or new j (pos 0)
      ≡ lowered_num (slice_index_or old j (pos 0)) over by (slice_index_or step j (pos 0))
  pub others : (j : ℕ) → n ≤ j → slice_index_or new j (pos 0) ≡ slice_index_or old j (pos 0)

-- the first n numbers are those of f, and each other is as it was
pub record AreNumeratorsMade (f : ℕ → ℤ) (n : ℕ) (old new : List ℤ) : Type 0 where
  pub long : length new ≡ length old
  pub made : (j : ℕ) → j < n → slice_index_or new j (pos 0) ≡ f j
  pub others : (j : ℕ) → n ≤ j → slice_index_or new j (pos 0) ≡ slice_index_or old j (pos 0)

-- the first n numbers are divided, and each other is as it was
pub record AreDivided (by : ℤ) (n : ℕ) (old new : List ℤ) : Type 0 where
  pub long : length new ≡ length old
  pub divided : (j : ℕ) → j < n →
      slice_index_or old j (pos 0) ≡ slice_index_or new j (pos 0) *ℤ by
  pub others : (j : ℕ) → n ≤ j → slice_index_or new j (pos 0) ≡ slice_index_or old j (pos 0)

-- what divides a size, the right side and the first n numbers, and what none of these passes
pub record IsMeasured (numbers : List ℤ) (n : ℕ) (side : ℤ) (size common greatest : ℕ) : Type 0
  where
    pub positive : 0 < common
    pub divides_size : common ∣ size
    pub divides_side : common ∣ unsigned_abs side
    pub divides : (j : ℕ) → j < n → common ∣ unsigned_abs (slice_index_or numbers j (pos 0))
    pub within_side : unsigned_abs side ≤ greatest
    pub within : (j : ℕ) → j < n → unsigned_abs (slice_index_or numbers j (pos 0)) ≤ greatest
    pub small : greatest < 2 ^ 63

-- none of the first n numerators is larger, nor is a size
pub record AreSized (numbers : List ℤ) (n size greatest : ℕ) : Type 0 where
  pub within_size : size ≤ greatest
  pub within : (j : ℕ) → j < n → unsigned_abs (slice_index_or numbers j (pos 0)) ≤ greatest
  pub small : greatest < 2 ^ 63

-- what divides a size and the first n numerators
pub record DividesAll (numbers : List ℤ) (n size common : ℕ) : Type 0 where
  pub positive : 0 < common
  pub divides_size : common ∣ size
  pub divides : (j : ℕ) → j < n → common ∣ unsigned_abs (slice_index_or numbers j (pos 0))

abbrev pub IsMeasure : List ℤ → ℕ → ℤ → ℕ → Measure → Type 0
IsMeasure numbers n side size measure =
    IsMeasured numbers n side size measure.common measure.greatest

-- each number from `start` on, lowered, can be divided, and is small then
pub record CanShrink (over : ℕ) (by : ℤ) (step : List ℤ) (common start : ℕ) (numbers : List ℤ) :
    Type 0 where
  pub exact : (j : ℕ) → start ≤ j → j < length numbers → common ∣ unsigned_abs
      (lowered_num (slice_index_or numbers j (pos 0)) over by (slice_index_or step j (pos 0)))
  pub small : (j : ℕ) → start ≤ j → j < length numbers → unsigned_abs
      (lowered_num (slice_index_or numbers j (pos 0)) over by (slice_index_or step j (pos 0)))
      / common < 2 ^ 63

-- the first n numbers are lowered and divided, and each other is as it was
pub record AreShrunk (over : ℕ) (by : ℤ) (step : List ℤ) (common n : ℕ) (old new : List ℤ) : Type 0
  where
    pub long : length new ≡ length old
    pub shrunk : (j : ℕ) → j < n →
        lowered_num (slice_index_or old j (pos 0)) over by (slice_index_or step j (pos 0))
        ≡ slice_index_or new j (pos 0) *ℤ pos common
    pub others : (j : ℕ) → n ≤ j → slice_index_or new j (pos 0) ≡ slice_index_or old j (pos 0)
