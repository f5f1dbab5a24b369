-- Whole numbers of a bounded size, and small ones.
use Rattle.std.specs.Prelude.{◌≡◌, ℕ, ◌^◌, ◌≤◌, List, All, unsigned_abs}
use Rattle.ratio_core.specs.Rational.{Rational}

-- a whole number of at most this size
pub record IsWholeWithin (bound : ℕ) (q : Rational) : Type 0 where
  pub whole : q.den ≡ 1
  pub size : unsigned_abs q.num ≤ bound

abbrev pub AreSmall : List Rational → Type 0
AreSmall qs = All (IsWholeWithin (2 ^ 40)) qs
