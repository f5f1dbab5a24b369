use Rattle.std.specs.Prelude.{filter}
use Rattle.std.proofs.Common.{sym, ap, subst, ◌∙◌}
use Rattle.ratio_core.specs.Rational.{Fits, ◌*ℚ◌}
use Rattle.aff_core.specs.Arithmetic.{scaled}
use Rattle.aff_core.specs.ArithmeticLaws.{is_multiple, times_rise}
use Rattle.aff_core.specs.Function.{function_of, terms_of}
use Rattle.aff_core.specs.FunctionLaws.{filter_nonzero, filter_rises, function_of-filter}
use Rattle.aff_core.specs.KeyOrder.{address_order}
use Rattle.aff_core.specs.Rising.{RiseStrictly}
use Rattle.aff_core.specs.Terms.{HaveNoZero, TimesFit, is_nonzero, times}
use Rattle.aff_core.proofs.arithmetic.Aff.scale.Goals as goal

pub of-requires-clause-rising : goal.of-requires-clause-rising
of-requires-clause-rising c =
    subst RiseStrictly (sym (c.in_ok-terms.ensures.1
    ∙ ap (λ ts. filter is_nonzero (times c.args.by.now ts)) c.terms.ensures.all))
    (filter_rises (times c.args.by.now (terms_of c.args.self.now))
    (times_rise c.args.by.now (terms_of c.args.self.now) c.terms.ensures.rising))

pub of-requires-clause-nonzero : goal.of-requires-clause-nonzero
of-requires-clause-nonzero c =
    subst HaveNoZero (sym c.in_ok-terms.ensures.1)
    (filter_nonzero (times c.args.by.now c.terms.result.now))

pub returns : goal.returns
unfolding scaled
returns c = (
  record {
    constant = subst (λ k. Fits (c.args.by.now *ℚ k)) c.constant.ensures
        c.in_ok-constant.ensures.exact.0;
    terms = subst (TimesFit c.args.by.now) c.terms.ensures.all c.in_ok-terms.ensures.0;
  },
  is_multiple address_order c.args.by.now c.args.self.now _ (c.of.ensures
      ∙ (λ i. function_of ((c.in_ok-terms.ensures.1
      ∙ ap (λ ts. filter is_nonzero (times c.args.by.now ts)) c.terms.ensures.all) i)
      ((c.in_ok-constant.ensures.exact.1 ∙ ap (λ k. c.args.by.now *ℚ k) c.constant.ensures) i))
      ∙ function_of-filter (times c.args.by.now (terms_of c.args.self.now))
      (c.args.by.now *ℚ c.args.self.now.constant)
      (times_rise c.args.by.now (terms_of c.args.self.now) c.terms.ensures.rising)),
)
