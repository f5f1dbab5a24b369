-- Numerals of a JSON text: when exact text replaces one, and which.
--     is_json_number       it is a number of JSON's grammar
--     is_long              a reader of floats might round it
--     number_of            the exact number that it writes
--     fitting, printed     the number as it is printed, or `!` where it doesn't fit
use Rattle.std.specs.Prelude.{ℕ, ◌*◌, ◌^◌, Bool, false, not, ◌&&◌, ◌||◌, List, [], ◌∷◌, ◌++◌, length, drop, ◌==◌, nat_lt, if◌then◌else◌, slice_index, bytes_eq, codes, Option, Some, None}
use Rattle.std.specs.Str.Parse.{starts_with_minus}
use Rattle.fast_float.specs.Text.{Parts, scan, digits_of, tens_up, tens_down}
use Rattle.ratio_core.specs.Rational.{Rational, fits, reduce, signed}
use Rattle.ratio_core.specs.Text.{text_of}

-- a numeral without its minus
abbrev pub magnitude_of : List ℕ → List ℕ
magnitude_of run = if starts_with_minus run then drop 1 run else run

-- digits, perhaps a point and digits, perhaps an exponent
abbrev pub parts_of : List ℕ → Parts
parts_of run = scan (magnitude_of run)

-- ---- when

-- a digit, and none before it is a 0
abbrev pub is_json_whole : List ℕ → Bool
is_json_whole ds = nat_lt 0 (length ds) && (length ds == 1 || not (slice_index ds 0 == 48))

-- the parts are those of a JSON number of this length
abbrev pub is_json_number : Parts → ℕ → Bool
is_json_number p len =
    p.len == len && is_json_whole p.whole && (not p.point || nat_lt 0 (length p.fraction))

-- it is `-0`, or it has a point, an exponent or more than 18 digits
abbrev pub is_long : List ℕ → Parts → Bool
is_long run p =
    bytes_eq run (codes "-0") || p.point || nat_lt 0 (length p.exponent)
    || nat_lt 18 (length p.whole)

abbrev pub is_white : ℕ → Bool
is_white c = c == 32 || c == 9 || c == 10 || c == 13

-- what comes first, white space apart, is a colon
abbrev pub is_colon_next : List ℕ → Bool
is_colon_next [] = false
is_colon_next (c ∷ cs) = if is_white c then is_colon_next cs else c == 58

-- ---- by what

-- the exact number that the parts write, with this sign
unfoldable pub number_of : Bool → Parts → Rational
number_of negative p = reduce (signed negative (digits_of p * 10 ^ tens_up p)) (10 ^ tens_down p)

-- the number, where it fits
unfoldable pub fitting : Rational → Option Rational
fitting q = if fits q then Some q else None

-- a number as it is printed, and `!` in place of one that doesn't fit
abbrev pub printed : Option Rational → List ℕ
printed (Some q) = text_of q
printed None = codes "!"

-- a JSON string of a text that needs no escape
abbrev pub quoted : List ℕ → List ℕ
quoted text = 34 ∷ (text ++ 34 ∷ [])

-- ---- a run of the bytes of numerals, and what follows it

abbrev pub is_replaced : List ℕ → List ℕ → Bool
is_replaced run rest =
    is_json_number (parts_of run) (length (magnitude_of run)) && is_long run (parts_of run)
    && not (is_colon_next rest)

abbrev pub replacement_of : List ℕ → List ℕ
replacement_of run =
    quoted (printed (fitting (number_of (starts_with_minus run) (parts_of run))))

-- what stands for the run
unfoldable pub replaced : List ℕ → List ℕ → List ℕ
replaced run rest = if is_replaced run rest then replacement_of run else run
