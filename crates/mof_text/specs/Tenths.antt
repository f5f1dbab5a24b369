-- Fractions from 0 up to 1 as they are worked out.
use Rattle.std.specs.Prelude.{◌≡◌, ℕ, ◌*◌, ◌^◌, ◌≤◌, Option, Some, None, pos}
use Rattle.ratio_core.specs.Rational.{reduce}
use Rattle.mof_text.specs.declared.tenths.Tenths.{Tenths}

-- the fraction n over d, or nothing where its denominator in lowest terms passes 2^127 - 1
abbrev pub TellsFraction : ℕ → ℕ → Option Tenths → Type 0
TellsFraction n d None = 2 ^ 127 ≤ (reduce (pos n) d).den
TellsFraction n d (Some t) = t.num * d ≡ n * t.den
