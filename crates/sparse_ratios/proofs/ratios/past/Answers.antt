use Rattle.std.proofs.Common.{rules, sym, subst, ap, arith, ◌∙◌, ◌≡◌, ◌+◌, ◌-◌, ◌<◌, ◌≤◌, ℕ, length, drop, take, slice_index_or}
use Rattle.ratio_core.specs.Rational.{zero_ℚ}
use Rattle.sparse_ratios.specs.Terms.{AreTerms, AreTermsSplit, HaveNoZeros, number_at, numbers_of}
use Rattle.sparse_ratios.specs.TermLaws.{nonzero_dropped, number_dropped, rest_whole, terms_dropped}
use Rattle.sparse_ratios.proofs.ratios.past.Goals as goal

pub returns-clause-terms : goal.returns-clause-terms
returns-clause-terms c = λ from to h.
    subst (AreTerms c.args.place to) (sym (rest_whole c.count_below.result c.args.terms.now))
    (terms_dropped from to c.args.place c.count_below.result c.args.terms.now h
    (λ k d b e. (c.count_below.ensures.split from to h).after k d b e))

pub returns-clause-nonzero : goal.returns-clause-nonzero
returns-clause-nonzero c = λ h.
    subst HaveNoZeros (sym (rest_whole c.count_below.result c.args.terms.now))
    (nonzero_dropped c.count_below.result c.args.terms.now h)

pub returns-clause-numbers : goal.returns-clause-numbers
returns-clause-numbers c = λ from to k h b.
    ap (λ ts. number_at ts k) (rest_whole c.count_below.result c.args.terms.now)
    ∙ number_dropped c.count_below.result k c.args.terms.now
    (λ j d e f g. omega (arith, b, g, (c.count_below.ensures.split from to h).before j d e))
