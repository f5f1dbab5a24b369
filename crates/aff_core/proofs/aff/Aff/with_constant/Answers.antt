use Rattle.std.proofs.Common.{sym, ap, subst, ◌∙◌}
use Rattle.aff_core.specs.Function.{function_of}
use Rattle.aff_core.specs.FunctionLaws.{function_of-terms}
use Rattle.aff_core.specs.Rising.{RiseStrictly}
use Rattle.aff_core.specs.Terms.{HaveNoZero}
use Rattle.aff_core.proofs.aff.Aff.with_constant.Goals as goal

pub of-requires-clause-rising : goal.of-requires-clause-rising
of-requires-clause-rising c =
    subst RiseStrictly (sym (c.in_ok-terms.ensures.items ∙ c.terms.ensures.all))
    c.terms.ensures.rising

pub of-requires-clause-nonzero : goal.of-requires-clause-nonzero
of-requires-clause-nonzero c =
    subst HaveNoZero (sym (c.in_ok-terms.ensures.items ∙ c.terms.ensures.all))
    c.terms.ensures.nonzero

pub returns : goal.returns
returns c =
    c.of.ensures ∙ ap (λ ts. function_of ts c.args.constant) (c.in_ok-terms.ensures.items
    ∙ c.terms.ensures.all)
    ∙ function_of-terms (record c.args.self.now { constant = c.args.constant })
