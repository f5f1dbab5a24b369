-- What is read of a function.
use Rattle.ratio_core.specs.Rational.{Rational, one_ℚ, zero_ℚ}
use Rattle.cert_core.specs.declared.readings.ValueOrSlope.{ValueOrSlope}
use Rattle.cert_core.specs.declared.readings.ValueOrSlope.TheVariants.{Value, Slope}

-- what the constant is multiplied by
abbrev pub one_of : ValueOrSlope → Rational
one_of Value = one_ℚ
one_of Slope = zero_ℚ
