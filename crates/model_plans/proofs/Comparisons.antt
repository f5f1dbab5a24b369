-- What comparisons tell: whether a function has a coefficient or a constant.
use Rattle.std.proofs.Common.{◌≡◌, ◌≢◌, Bool, true, false, ap, sym, ◌∙◌}
use Rattle.std.specs.Prelude.{MatchBool}
use Rattle.ratio_core.specs.Rational.{Rational, rational_eq}
use Rattle.ratio_core.specs.RationalLaws.{rational_eq-false, rational_eq-true}
use Rattle.aff_core.specs.Address.{Address}
use Rattle.aff_core.specs.Function.{Function, coefficient, with_coefficient}
use Rattle.aff_core.specs.FunctionLaws.{other_coefficient, same_coefficient}
use Rattle.aff_core.specs.KeyOrder.{address_order}
use Rattle.user_model.specs.Edited.{with_constant}
use Rattle.model_laws.specs.Coefficients.{other_constant, same_constant}

pub has_coefficient : (f : Function) (at : Address) (value : Rational) (r : Bool) (q : Rational)
    → q ≡ coefficient f at → r ≡ rational_eq q value → MatchBool r (with_coefficient f at value ≡ f)
    (with_coefficient f at value ≢ f)
has_coefficient f at value r q is e = by r (sym (e ∙ ap (λ p. rational_eq p value) is))
  where
    by : (b : Bool) → rational_eq (coefficient f at) value ≡ b
        → MatchBool b (with_coefficient f at value ≡ f) (with_coefficient f at value ≢ f)
    by true same =
        same_coefficient address_order f at value (rational_eq-true (coefficient f at) value same)
    by false other =
        other_coefficient address_order f at value
        (rational_eq-false (coefficient f at) value other)

pub has_constant : (f : Function) (value : Rational) (r : Bool) (q : Rational) → q ≡ f.constant
    → r ≡ rational_eq q value → MatchBool r (with_constant f value ≡ f) (with_constant f value ≢ f)
has_constant f value r q is e = by r (sym (e ∙ ap (λ p. rational_eq p value) is))
  where
    by : (b : Bool) → rational_eq f.constant value ≡ b → MatchBool b (with_constant f value ≡ f)
        (with_constant f value ≢ f)
    by true same = same_constant f value (rational_eq-true f.constant value same)
    by false other = other_constant f value (rational_eq-false f.constant value other)
