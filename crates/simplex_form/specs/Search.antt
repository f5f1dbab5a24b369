-- The least, and the best, of the numbers below a bound, and tests of all of them or of one.
use Rattle.std.specs.Prelude.{ℕ, zero, suc, Bool, true, false, ◌&&◌, ◌||◌, Option, Some, None, if◌then◌else◌}

-- the first, or else the second
abbrev pub or_else : Option ℕ → Option ℕ → Option ℕ
or_else None other = other
or_else (Some i) other = Some i

-- the least number below n that passes the test
abbrev pub least_below : ℕ → (ℕ → Bool) → Option ℕ
least_below zero test = None
least_below (suc n) test = or_else (least_below n test) (if test n then Some n else None)

abbrev pub row_or_else : Option (ℕ × ℕ) → ℕ → Option ℕ → Option (ℕ × ℕ)
row_or_else (Some found) i column = Some found
row_or_else None i None = None
row_or_else None i (Some j) = Some (i, j)

-- the least row below n that has a column, with that column
abbrev pub least_row : ℕ → (ℕ → Option ℕ) → Option (ℕ × ℕ)
least_row zero column_of = None
least_row (suc n) column_of = row_or_else (least_row n column_of) n (column_of n)

-- the better of the best so far and i, where i passes the test
abbrev pub better_of : (ℕ → Bool) → (ℕ → ℕ → Bool) → Option ℕ → ℕ → Option ℕ
better_of test before None i = if test i then Some i else None
better_of test before (Some best) i = if test i && before i best then Some i else Some best

-- the number below n that passes the test and comes before the others that do
abbrev pub best_below : ℕ → (ℕ → Bool) → (ℕ → ℕ → Bool) → Option ℕ
best_below zero test before = None
best_below (suc n) test before = better_of test before (best_below n test before) n

-- each number below n passes the test
abbrev pub all_below : ℕ → (ℕ → Bool) → Bool
all_below zero test = true
all_below (suc n) test = all_below n test && test n

-- some number below n passes the test
abbrev pub some_below : ℕ → (ℕ → Bool) → Bool
some_below zero test = false
some_below (suc n) test = some_below n test || test n
