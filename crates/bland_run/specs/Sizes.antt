-- The line of a form that says how many rows and columns it has.
use Rattle.std.specs.Prelude.{ℕ, ◌+◌, Bool, ◌&&◌, List, [], ◌∷◌, Option, Some, None, nat_le, nat_lt, if◌then◌else◌, ◌==◌}
use Rattle.std.specs.List.{slice_split}
use Rattle.std.specs.Str.Parse.{digits_value}
use Rattle.script_tokens.specs.Each.{◌>>=◌}
use Rattle.script_tokens.specs.Number.{is_digits}
use Rattle.bland_run.specs.declared.size.Size.{Size}

-- the number that digits write, where it is from 1 to 61
abbrev pub counted : ℕ → Option ℕ
counted n = if nat_lt 0 n && nat_le n 61 then Some n else None

abbrev pub count_in : List ℕ → Option ℕ
count_in word = if is_digits word then counted (digits_value 10 word) else None

-- the size of m rows and c columns, which are at most 61 together
abbrev pub size_of : ℕ → ℕ → Option Size
size_of m c = if nat_le (m + c) 61 then Some (record { m = m; c = c }) else None

-- that of the two words of a line
abbrev pub size_in_words : List (List ℕ) → Option Size
size_in_words (m ∷ c ∷ []) = count_in m >>= (λ m. count_in c >>= (λ c. size_of m c))
size_in_words words = None

abbrev pub size_in : List ℕ → Option Size
size_in line = size_in_words (slice_split (λ b. b == 32) line)
