-- Sums over the numbers below a bound, and the unit vectors.
use Rattle.std.specs.Prelude.{ℕ, zero, suc, nat_eq, if◌then◌else◌}
use Rattle.ratio_core.specs.Rational.{Rational, one_ℚ, zero_ℚ, ◌+ℚ◌}

-- f 0 + f 1 + .. over the numbers below n
abbrev pub sum_to : ℕ → (ℕ → Rational) → Rational
sum_to zero f = zero_ℚ
sum_to (suc n) f = sum_to n f +ℚ f n

-- 1 where the two numbers are equal, and 0 elsewhere
unfoldable pub delta : ℕ → ℕ → Rational
delta i k = if nat_eq i k then one_ℚ else zero_ℚ
