-- How a name is written as a token, and how a token is read.
use Rattle.std.specs.Prelude.{ℕ, ◌+◌, ◌-◌, ◌*◌, ◌/◌, ◌%◌, Bool, ◌&&◌, ◌||◌, ◌==◌, nat_lt, List, [], ◌∷◌, if◌then◌else◌}
use Rattle.std.specs.Char.{is_ascii_hexdigit}
use Rattle.std.specs.Int.{is_in_range}
use Rattle.std.specs.List.{flat_map}

-- `b'%'`
abbrev pub percent : ℕ
percent = 37

-- the upper-case hexadecimal digit, '0' to '9' or 'A' to 'F', of a number below 16
abbrev pub hex_digit : ℕ → ℕ
hex_digit d = if nat_lt d 10 then 48 + d else 55 + d

-- the value of a hexadecimal digit: '0' to '9', 'A' to 'F' or 'a' to 'f'
abbrev pub hex_value : ℕ → ℕ
hex_value b =
    if is_in_range 48 57 b then b - 48 else (if is_in_range 65 70 b then b - 55 else b - 87)

-- the byte is written as an escape: 0 to 32, 127 and past it, and `%`
abbrev pub is_escaped : ℕ → Bool
is_escaped b = nat_lt b 33 || b == percent || nat_lt 126 b

-- a byte as it is written: itself, or `%` and its two hexadecimal digits
abbrev pub escaped_byte : ℕ → List ℕ
escaped_byte b =
    if is_escaped b then percent ∷ hex_digit (b / 16) ∷ hex_digit (b % 16) ∷ [] else b ∷ []

-- the bytes as they are written
unfoldable pub escaped : List ℕ → List ℕ
escaped bytes = flat_map escaped_byte bytes

-- the three bytes are `%` and two hexadecimal digits
abbrev pub is_escape : ℕ → ℕ → ℕ → Bool
is_escape b high low = b == percent && (is_ascii_hexdigit high && is_ascii_hexdigit low)

-- the bytes that a token stands for: each escape is its byte, and any other `%` stands for itself
unfoldable pub percent_decoded : List ℕ → List ℕ
percent_decoded [] = []
percent_decoded (b ∷ []) = b ∷ []
percent_decoded (b ∷ c ∷ []) = b ∷ c ∷ []
percent_decoded (b ∷ high ∷ low ∷ rest) =
    if is_escape b high low
    then (16 * hex_value high + hex_value low) ∷ percent_decoded rest
    else b ∷ percent_decoded (high ∷ low ∷ rest)
