use Rattle.std.proofs.Common.{rules, sym, subst, ap, arith, ◌∙◌, ◌≡◌, ◌+◌, ◌-◌, ◌<◌, ◌≤◌, ℕ, length, drop, take, slice_index_or}
use Rattle.ratio_core.specs.Rational.{zero_ℚ}
use Rattle.sparse_ratios.specs.Terms.{AreTerms, AreTermsSplit, HaveNoZeros, number_at, numbers_of}
use Rattle.sparse_ratios.specs.TermLaws.{nonzero_taken, number_taken, terms_taken}
use Rattle.sparse_ratios.proofs.ratios.below.Goals as goal

pub returns-clause-terms : goal.returns-clause-terms
returns-clause-terms c = λ from to h.
    terms_taken from to c.args.place c.count_below.result c.args.terms.now h
    (λ k d b e. (c.count_below.ensures.split from to h).before k d b)

pub returns-clause-nonzero : goal.returns-clause-nonzero
returns-clause-nonzero c = nonzero_taken c.count_below.result c.args.terms.now

pub returns-clause-numbers : goal.returns-clause-numbers
returns-clause-numbers c = λ from to k h b.
    number_taken c.count_below.result k c.args.terms.now
    (λ j d e f g. omega (arith, b, g, (c.count_below.ensures.split from to h).after j d e f))
