-- The number after `ok`.
use Rattle.std.specs.Prelude.{ℕ, ◌==◌, List, bytes_eq, codes, Option, None, unwrap_or, if◌then◌else◌}
use Rattle.std.specs.List.{after_first, before_first}
use Rattle.std.specs.Str.Parse.{digits_value}
use Rattle.script_tokens.specs.Number.{in_bits, is_digits}

-- the first line of a text, without its newline
abbrev pub first_line : List ℕ → List ℕ
first_line text = before_first (λ b. b == 10) text

-- the number that decimal digits write, if 64 bits hold it
abbrev pub count_in : List ℕ → Option ℕ
count_in digits = if is_digits digits then in_bits 64 (digits_value 10 digits) else None

-- the number behind `ok` in the first line, and 0 where there is none
unfoldable pub calls_in : List ℕ → ℕ
calls_in text =
    if bytes_eq (before_first (λ b. b == 32) (first_line text)) (codes "ok")
    then unwrap_or (count_in (after_first (λ b. b == 32) (first_line text))) 0
    else 0
