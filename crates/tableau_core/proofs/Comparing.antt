-- Which of two ratios comes first.
use Rattle.std.specs.Prelude.{◌≡◌, Bool, ◌&&◌, ◌||◌}
use Rattle.std.proofs.Common.{sym, ◌∙◌, is_lt, Ordering}
use Rattle.std.specs.Ordering.{is_eq}
use Rattle.ratio_core.specs.Rational.{Rational, rational_cmp, rational_eq}
use Rattle.ratio_core.specs.RationalLaws.{rational_eq-is_eq}
use Rattle.simplex_form.specs.Turns.{is_below}

pub before_by : (p q : Rational) (w : Bool) (r : Ordering) → r ≡ rational_cmp p q
    → (is_lt r || is_eq r && w) ≡ (is_below p q || rational_eq p q && w)
before_by p q w r e =
    (λ i. is_lt (e i) || is_eq (e i) && w)
    ∙ (λ i. is_lt (rational_cmp p q) || sym (rational_eq-is_eq p q) i && w)
