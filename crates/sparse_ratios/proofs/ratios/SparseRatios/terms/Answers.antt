use Rattle.std.proofs.Common.{rules, sym, subst, ap, arith, ◌∙◌, ◌≡◌, ◌+◌, ◌-◌, ◌<◌, ◌≤◌, ℕ, length, slice_index_or}
use Rattle.ratio_core.specs.Rational.{zero_ℚ}
use Rattle.sparse_ratios.specs.Terms.{AreTerms, AreTermsSplit, HaveNoZeros, number_at, numbers_of}
use Rattle.sparse_ratios.proofs.KeptSteps.{kept_long, kept_number}
use Rattle.sparse_ratios.proofs.ratios.SparseRatios.terms.Goals as goal

pub returns-clause-terms : goal.returns-clause-terms
returns-clause-terms c =
    let a = c.self.inside in
    subst (λ ts. AreTerms 0 (length c.args.self.now) ts) (sym c.deref.ensures.value)
    (subst (λ n. AreTerms 0 n a.terms.items) (kept_long a c.args.self.now c.self.view_is)
    c.self.invariant.terms)

pub returns-clause-numbers : goal.returns-clause-numbers
returns-clause-numbers c = λ k.
    ap (λ ts. number_at ts k) c.deref.ensures.value
    ∙ kept_number c.self.inside c.args.self.now c.self.view_is c.self.invariant k
