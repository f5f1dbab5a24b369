-- Points that are 1 at one address and 0 at each other, and what of a sum they pick.
use Rattle.std.specs.Prelude.{◌≡◌, Bool, true, false, cond, refl}
use Rattle.std.specs.Ordering.{eq_by_cmp}
use Rattle.std.proofs.Common.{sym, ◌∙◌, ap, true≢false}
use Rattle.ratio_core.specs.Rational.{Rational, one_ℚ, rational_eq, zero_ℚ}
use Rattle.ratio_core.specs.RationalLaws.{rational_eq-false, rational_eq-true}
use Rattle.aff_core.specs.Address.{Address, address_cmp, address_eq-Decides}
use Rattle.aff_core.specs.Points.{unit}

pub same_or_other : (C : Type 0) (v u : Address) → (v ≡ u → C) → (¬ (v ≡ u) → C) → C
same_or_other C v u same other = by_test (eq_by_cmp address_cmp v u) refl
  where
    by_test : (b : Bool) → eq_by_cmp address_cmp v u ≡ b → C
    by_test true e = same ((address_eq-Decides v u).0 e)
    by_test false e = other (λ k. true≢false (sym ((address_eq-Decides v u).1 k) ∙ e))

pub unit_same : (v : Address) → unit v v ≡ one_ℚ
unit_same v = ap (λ b. cond b one_ℚ zero_ℚ) ((address_eq-Decides v v).1 refl)

pub unit_other : (v u : Address) → ¬ (v ≡ u) → unit v u ≡ zero_ℚ
unit_other v u n = by_test (eq_by_cmp address_cmp v u) refl
  where
    by_test : (b : Bool) → eq_by_cmp address_cmp v u ≡ b → cond b one_ℚ zero_ℚ ≡ zero_ℚ
    by_test true e = absurd (n ((address_eq-Decides v u).0 e))
    by_test false e = refl

pub zero_or_other : (C : Type 0) (q : Rational) → (q ≡ zero_ℚ → C) → (¬ (q ≡ zero_ℚ) → C) → C
zero_or_other C q zero other = by_test (rational_eq q zero_ℚ) refl
  where
    by_test : (b : Bool) → rational_eq q zero_ℚ ≡ b → C
    by_test true e = zero (rational_eq-true q zero_ℚ e)
    by_test false e = other (rational_eq-false q zero_ℚ e)
