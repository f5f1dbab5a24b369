use Rattle.std.proofs.Common.{rules, sym, subst, ap, arith, ◌∙◌, ◌≡◌, ◌+◌, ◌-◌, ◌<◌, ◌≤◌, ℕ, length, slice_index_or}
use Rattle.ratio_core.specs.Rational.{zero_ℚ}
use Rattle.sparse_ratios.specs.Terms.{AreTerms, AreTermsSplit, HaveNoZeros, number_at, numbers_of}
use Rattle.sparse_ratios.specs.TermLaws.{length-numbers_of}
use Rattle.sparse_ratios.proofs.ratios.SparseRatios.len.Goals as goal

pub returns : goal.returns
returns c =
    sym (length-numbers_of c.self.inside.len c.self.inside.terms.items) ∙ ap length c.self.view_is
