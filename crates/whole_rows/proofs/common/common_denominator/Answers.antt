use Rattle.std.proofs.Common.{◌∙◌, refl, subst, sym}
use Rattle.std.proofs.lemmas.Nat.Gcd.{dvd_refl}
use Rattle.std.specs.Int.{◌∣◌}
use Rattle.whole_rows.proofs.DividingSteps.{one_dvd}
use Rattle.whole_rows.proofs.CommonSteps.{common_made}
use Rattle.whole_rows.proofs.common.common_denominator.Goals as goal

pub returns : goal.returns
returns c =
    common_made c.next_den.result c.args.den c.in_ok-own.own _ _ c.args.value.now
    c.next_den.ensures c.in_ok-own.ensures.0 c.common_divisor.ensures.value refl
    c.requires.above

pub returns-then-own-eq1 : goal.returns-then-own-eq1
returns-then-own-eq1 c = record {
  above = c.requires.above;
  small = c.requires.small;
  left = dvd_refl c.args.den;
  right = subst (λ x. x ∣ c.args.den) (sym c.if-own-eq1.true ∙ c.in_ok-own.ensures.0)
      (one_dvd c.args.den);
}
