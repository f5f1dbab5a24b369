-- A common denominator.
use Rattle.std.specs.Prelude.{◌≡◌, ℕ, ◌*◌, ◌/◌, ◌^◌, ◌<◌, ◌≤◌, IfSome, MatchOption, Option, Some, None}
use Rattle.std.specs.Int.{◌∣◌}
use Rattle.std.proofs.Common.{sym, ◌∙◌, ap, arith, mul-pos, subst}
use Rattle.std.proofs.Math.Nat.{dvd-mul_right, mul-div_cancel'}
use Rattle.ratio_core.specs.Gcd.{gcd, gcd_is, part_pos}
use Rattle.ratio_core.specs.Rational.{Rational}
use Rattle.whole_rows.specs.Common.{IsCommon}

pub common_made : (o : Option ℕ) (den own over g : ℕ) (value : Rational)
    → MatchOption o (2 ^ 63 ≤ den * over) (λ n. (n ≡ den * over) × (n < 2 ^ 63))
    → own ≡ value.den → g ≡ gcd den own → over ≡ own / g → 0 < den
    → IfSome o (λ common. IsCommon den value common)
common_made None den own over g value h own_is g_is over_is above = tt
common_made (Some n) den own over g value h own_is g_is over_is above = record {
  above = subst (λ x. 0 < x) (sym h.0) (mul-pos above over_pos);
  small = h.1;
  left = subst (λ x. den ∣ x) (sym h.0) (dvd-mul_right den over);
  right = subst (λ x. value.den ∣ x) (sym h.0) (subst (λ x. x ∣ (den * over)) own_is
      (subst (λ x. own ∣ x) whole (dvd-mul_right own (den / g))));
}
  where
    over_pos : 0 < over
    over_pos =
        subst (λ x. 0 < x) (sym (over_is ∙ ap (λ x. own / x) g_is))
        (part_pos den own (subst (λ x. 0 < x) (sym own_is) value.reduced.0))

    left_is : g * (den / g) ≡ den
    left_is = mul-div_cancel' g (subst (λ x. x ∣ den) (sym g_is) (gcd_is den own).0)

    right_is : g * over ≡ own
    right_is =
        ap (λ x. g * x) over_is
        ∙ mul-div_cancel' g (subst (λ x. x ∣ own) (sym g_is) (gcd_is den own).1)

    shuffle_lem : (a b c : ℕ) → (a * b) * c ≡ (a * c) * b
    shuffle_lem a b c = omega arith

    whole : own * (den / g) ≡ den * over
    whole =
        ap (λ x. x * (den / g)) (sym right_is) ∙ shuffle_lem g over (den / g)
        ∙ ap (λ x. x * over) left_is
