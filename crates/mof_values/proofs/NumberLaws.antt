-- Numbers of a file.
use Rattle.std.specs.Prelude.{◌≡◌, ◌≢◌, ◌<◌, ◌^◌, ℕ, zero, suc, ℤ, pos, negsuc, unsigned_abs, Some, None, refl}
use Rattle.std.proofs.Common.{arith, subst, sym, ◌∙◌}
use Rattle.ratio_core.specs.Rational.{Fits, Rational, fraction, whole_ℚ}
use Rattle.ratio_core.specs.RationalLaws.{reduce_itself}
use Rattle.serde_json.specs.Data.{Num, float, negative, unsigned}
use Rattle.serde_json.specs.Find.{as_i64, as_integer, as_u64}

pub whole_fits : (n : ℤ) → unsigned_abs n < 2 ^ 64 → Fits (whole_ℚ n)
unfolding whole_ℚ
whole_fits n small = record { num = omega arith; den = omega arith }

pub fraction_whole : (n : ℤ) → fraction n (pos 1) ≡ whole_ℚ n
unfolding whole_ℚ fraction
fraction_whole n = reduce_itself (whole_ℚ n)

-- where it is no unsigned number of 64 bits, the signed one decides
pub signed_is : (n : Num) → None ≡ as_u64 n → as_integer n ≡ as_i64 n
signed_is (unsigned n) e = cc
signed_is (negative z) e = refl
signed_is (float x) e = refl

pub unsigned_is : (n : Num) (k : ℕ) → Some k ≡ as_u64 n → as_integer n ≡ Some (pos k)
unsigned_is (unsigned n) k e = cc
unsigned_is (negative z) k e = cc
unsigned_is (float x) k e = cc

pub whole_is : (n : ℤ) (q : Rational) → q ≡ fraction n (pos 1) → q ≡ whole_ℚ n
whole_is n q is = is ∙ fraction_whole n

pub whole_fraction_fits : (n : ℤ) → unsigned_abs n < 2 ^ 64 → Fits (fraction n (pos 1))
whole_fraction_fits n small = subst Fits (sym (fraction_whole n)) (whole_fits n small)

abbrev IsNonzero : ℤ → Type 0
IsNonzero (pos zero) = ⊥
IsNonzero (pos (suc n)) = Unit {0}
IsNonzero (negsuc n) = Unit {0}

pub one_nonzero : pos 1 ≢ pos 0
one_nonzero e = subst IsNonzero e tt
