-- How a number is written: an optional '-', decimal digits, and where it is no whole number a '/'
-- and the denominator.
-- rational_of text the number that a literal stands for, or `None` where the text is no literal
--     text_of q                  the text that is printed for q
use Rattle.std.specs.Prelude.{ℕ, suc, ◌^◌, Bool, ◌&&◌, List, [], ◌∷◌, ◌++◌, length, drop, Option, Some, None, nat_lt, ◌==◌, if◌then◌else◌, decimal}
use Rattle.std.specs.Char.{is_ascii_digit}
use Rattle.std.specs.Fmt.{signed_decimal}
use Rattle.std.specs.List.{after_first, before_first, list_all, list_any}
use Rattle.std.specs.Str.Parse.{digits_value, starts_with_minus}
use Rattle.ratio_core.specs.Rational.{Rational, reduce, signed}

-- ---- literals

abbrev pub is_slash : ℕ → Bool
is_slash c = c == 47

-- a part of a literal: one digit or more, that write a number of at most 2^127 - 1
unfoldable pub is_part : List ℕ → Bool
is_part ds =
    nat_lt 0 (length ds) && list_all is_ascii_digit ds && nat_lt (digits_value 10 ds) (2 ^ 127)

unfoldable pub part_of : List ℕ → Option ℕ
part_of ds = if is_part ds then Some (digits_value 10 ds) else None

-- what stands before the first '/', and after it; the denominator is 1 where there is none
unfoldable pub numerator_of : List ℕ → Option ℕ
numerator_of text = part_of (before_first is_slash text)

unfoldable pub denominator_of : List ℕ → Option ℕ
denominator_of text = if list_any is_slash text then part_of (after_first is_slash text) else Some 1

-- n over d with this sign, where both are there and d is not 0
abbrev pub rational_from : Bool → Option ℕ → Option ℕ → Option Rational
rational_from negative (Some n) (Some (suc d)) = Some (reduce (signed negative n) (suc d))
rational_from negative n d = None

unfoldable pub rational_of : List ℕ → Option Rational
rational_of text =
    let digits = if starts_with_minus text then drop 1 text else text in
    rational_from (starts_with_minus text) (numerator_of digits) (denominator_of digits)

-- ---- printed text

-- '/' and the denominator, where it isn't 1
unfoldable pub denominator_text : ℕ → List ℕ
denominator_text d = if d == 1 then [] else 47 ∷ decimal d

unfoldable pub text_of : Rational → List ℕ
text_of q = signed_decimal q.num ++ denominator_text q.den
