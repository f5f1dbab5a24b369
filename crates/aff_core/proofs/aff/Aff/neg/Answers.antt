use Rattle.std.proofs.Common.{sym, ap, subst, ◌∙◌}
use Rattle.ratio_core.specs.Rational.{neg_ℚ}
use Rattle.aff_core.specs.Function.{function_of, negated, terms_of}
use Rattle.aff_core.specs.FunctionLaws.{is_negated, negated_nonzero, negated_rise}
use Rattle.aff_core.specs.KeyOrder.{address_order}
use Rattle.aff_core.specs.Rising.{RiseStrictly}
use Rattle.aff_core.specs.Terms.{HaveNoZero, negated_terms}
use Rattle.aff_core.proofs.aff.Aff.neg.Goals as goal

pub of-requires-clause-rising : goal.of-requires-clause-rising
of-requires-clause-rising c =
    subst RiseStrictly (sym (c.in_ok-terms.ensures ∙ ap negated_terms c.terms.ensures.all))
    (negated_rise (terms_of c.args.self.now) c.terms.ensures.rising)

pub of-requires-clause-nonzero : goal.of-requires-clause-nonzero
of-requires-clause-nonzero c =
    subst HaveNoZero (sym (c.in_ok-terms.ensures ∙ ap negated_terms c.terms.ensures.all))
    (negated_nonzero (terms_of c.args.self.now) c.terms.ensures.nonzero)

pub returns-clause-same : goal.returns-clause-same
unfolding negated
returns-clause-same c =
    c.of.ensures
    ∙ (λ i. function_of ((c.in_ok-terms.ensures ∙ ap negated_terms c.terms.ensures.all) i)
    ((c.neg.ensures ∙ ap neg_ℚ c.constant.ensures) i))

pub returns-clause-numbers : goal.returns-clause-numbers
returns-clause-numbers c =
    is_negated address_order c.args.self.now c.of.result (returns-clause-same c)
