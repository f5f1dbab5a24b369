-- Fractions over a common denominator.
use Rattle.std.specs.Prelude.{◌≡◌, ℕ, zero, suc, ◌*◌, ◌/◌, ◌^◌, ◌<◌, ℤ, pos, ◌*ℤ◌}
use Rattle.std.specs.Int.{◌∣◌}
use Rattle.std.proofs.Common.{sym, ◌∙◌, ap, arith}
use Rattle.std.proofs.Math.Nat.{mul-div_cancel'}
use Rattle.ratio_core.specs.Rational.{Rational, reduce}
use Rattle.ratio_core.specs.RationalLaws.{reduce_itself}
use Rattle.rational_laws.specs.Over.{reduce_scaled}

-- a denominator of all that are over `den`, and of the number
pub record IsCommon (den : ℕ) (value : Rational) (common : ℕ) : Type 0 where
  pub above : 0 < common
  pub small : common < 2 ^ 63
  pub left : den ∣ common
  pub right : value.den ∣ common

-- the numerator over `den`, which the number's denominator divides
abbrev pub over_num : Rational → ℕ → ℤ
over_num value den = value.num *ℤ pos (den / value.den)

pub over_is : (value : Rational) (den : ℕ) → 0 < den → value.den ∣ den
    → reduce (over_num value den) den ≡ value
over_is value den above h =
    ap (reduce (over_num value den)) (sym (mul-div_cancel' value.den h))
    ∙ reduce_scaled value.num value.den (den / value.den) value.reduced.0
    (times_lem value.den (den / value.den) den (mul-div_cancel' value.den h) above)
    ∙ reduce_itself value
  where
    times_lem : (d k n : ℕ) → d * k ≡ n → 0 < n → 0 < k
    times_lem d zero n e a = absurd (omega (arith, e, a))
    times_lem d (suc k) n e a = omega arith
