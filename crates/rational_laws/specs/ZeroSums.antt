-- A number that fits and 0 meet the rule for sums.
use Rattle.std.specs.Prelude.{◌≡◌, ℕ, ◌*◌, ℤ, pos, ◌+ℤ◌}
use Rattle.std.proofs.Common.{ap, arith, zero-mul}
use Rattle.std.proofs.lemmas.Int.{ints}
use Rattle.ratio_core.specs.Gcd.{gcd-one}
use Rattle.ratio_core.specs.Rational.{Fits, Rational, SumFits, common_divisor, whole_ℚ, zero_ℚ}
use Rattle.rational_laws.specs.Fitting.{SumFits_apart}
use Rattle.rational_laws.specs.Whole.{*ℤ_pos_one}

pub SumFits-zero_right : (q : Rational) → Fits q → SumFits q zero_ℚ
unfolding common_divisor zero_ℚ whole_ℚ
SumFits-zero_right q f =
    SumFits_apart q zero_ℚ (gcd-one q.den) q.num (pos 0) q.num q.den (*ℤ_pos_one q.num)
    (ap pos (zero-mul q.den)) (zero_right q.num) (one_right q.den) f.num (omega arith) f.num f.den
  where
    zero_right : (a : ℤ) → a +ℤ pos 0 ≡ a
    zero_right a = omega (arith, ints)

    one_right : (k : ℕ) → k * 1 ≡ k
    one_right k = omega arith
