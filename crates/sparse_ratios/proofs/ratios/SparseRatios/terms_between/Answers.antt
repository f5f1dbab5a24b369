use Rattle.std.proofs.Common.{rules, sym, subst, ap, arith, ◌∙◌, ◌≡◌, ◌+◌, ◌-◌, ◌<◌, ◌≤◌, ℕ, length, drop, take, slice_index_or}
use Rattle.ratio_core.specs.Rational.{zero_ℚ}
use Rattle.sparse_ratios.specs.Terms.{AreTerms, AreTermsSplit, HaveNoZeros, number_at, numbers_of}
use Rattle.sparse_ratios.proofs.KeptSteps.{kept_number}
use Rattle.sparse_ratios.proofs.ratios.SparseRatios.terms_between.Goals as goal

pub returns-clause-terms : goal.returns-clause-terms
returns-clause-terms c =
    c.past.ensures.terms 0 c.args.to (c.below-below.ensures.terms 0 c.self.inside.len
    (subst (AreTerms 0 c.self.inside.len) (sym c.deref.ensures.value) c.self.invariant.terms))

pub returns-clause-numbers : goal.returns-clause-numbers
returns-clause-numbers c = λ k b d.
    let all : AreTerms 0 c.self.inside.len c.deref.result.now =
    subst (AreTerms 0 c.self.inside.len) (sym c.deref.ensures.value) c.self.invariant.terms in
    c.past.ensures.numbers 0 c.args.to k (c.below-below.ensures.terms 0 c.self.inside.len all) b
    ∙ c.below-below.ensures.numbers 0 c.self.inside.len k all d
    ∙ ap (λ ts. number_at ts k) c.deref.ensures.value
    ∙ kept_number c.self.inside c.args.self.now c.self.view_is c.self.invariant k
