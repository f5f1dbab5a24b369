-- Fractions whose sums and products pass 128 bits at no step.
use Rattle.std.specs.Prelude.{◌^◌, ◌<◌, unsigned_abs}
use Rattle.ratio_core.specs.Rational.{Rational}

pub record IsNarrow (q : Rational) : Type 0 where
  pub num : unsigned_abs q.num < 2 ^ 63
  pub den : q.den < 2 ^ 63
