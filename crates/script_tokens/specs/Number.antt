-- Whole numbers of a script.
use Rattle.std.specs.Prelude.{ℕ, ◌^◌, Bool, ◌&&◌, nat_le, nat_lt, List, length, Option, Some, None, if◌then◌else◌}
use Rattle.std.specs.Char.{is_ascii_digit}
use Rattle.std.specs.List.{list_all}
use Rattle.std.specs.Str.Parse.{digits_value}

-- one decimal digit or more
abbrev pub is_digits : List ℕ → Bool
is_digits word = nat_lt 0 (length word) && list_all is_ascii_digit word

-- at most ten decimal digits
abbrev pub is_numeral : List ℕ → Bool
is_numeral token = is_digits token && nat_le (length token) 10

-- a number that w bits hold
abbrev pub in_bits : ℕ → ℕ → Option ℕ
in_bits w n = if nat_lt n (2 ^ w) then Some n else None

-- the number that a numeral writes, of at most 4,294,967,295
unfoldable pub number_of : List ℕ → Option ℕ
number_of token = if is_numeral token then in_bits 32 (digits_value 10 token) else None
