-- A point that an exponent moves over digits.
use Rattle.std.specs.Prelude.{◌≡◌, ℕ, ◌+◌, ◌*◌, ◌^◌, ◌<◌, ◌≤◌, ◌⊎◌, Bool, List, ◌++◌, length, ◌==◌}
use Rattle.std.specs.List.{list_all}
use Rattle.std.specs.Str.Parse.{digits_value}
use Rattle.ratio_core.specs.Rational.{Rational, reduce, signed}

abbrev pub are_zeros : List ℕ → Bool
are_zeros ds = list_all (λ d. d == 48) ds

-- this number of digits is passed, and the zeros are put behind the last or before the first
pub record MovesBy (len power moved zeros : ℕ) : Type 0 where
  pub power_is : moved + zeros ≡ power
  pub within : moved ≤ len
  pub few : zeros < 39
  pub past_all : (moved ≡ len) ⊎ (zeros ≡ 0)

-- `whole.fraction` times a power of ten
abbrev pub times_ten : Bool → List ℕ → List ℕ → ℕ → Rational
times_ten negative whole fraction power =
    reduce (signed negative (digits_value 10 (whole ++ fraction) * 10 ^ power))
    (10 ^ length fraction)

-- `whole.fraction` over a power of ten
abbrev pub over_ten : Bool → List ℕ → List ℕ → ℕ → Rational
over_ten negative whole fraction power =
    reduce (signed negative (digits_value 10 (whole ++ fraction))) (10 ^ (length fraction + power))
