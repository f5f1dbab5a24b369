use Rattle.std.proofs.Common.{rules, sym, subst, ap, arith, ◌∙◌, ◌≡◌, ◌+◌, ◌-◌, ◌<◌, ◌≤◌, ℕ, length, slice_index_or}
use Rattle.ratio_core.specs.Rational.{zero_ℚ}
use Rattle.sparse_ratios.specs.Terms.{AreTerms, AreTermsSplit, HaveNoZeros, number_at, numbers_of}
use Rattle.sparse_ratios.specs.TermLaws.{terms_wider}
use Rattle.sparse_ratios.proofs.KeptSteps.{kept_below, kept_padded}
use Rattle.sparse_ratios.proofs.ratios.SparseRatios.pad.Goals as goal

pub invariant_of-self : goal.invariant_of-self
invariant_of-self c =
    let a = c.self.inside in
    let low : a.len ≤ c.args.len = kept_below a c.args.self.now c.self.view_is c.args.len c.requires in
    record {
      terms = terms_wider 0 a.len c.args.len a.terms.items c.self.invariant.terms low;
      nonzero = c.self.invariant.nonzero;
    }

pub returns : goal.returns
returns c =
    kept_padded c.self.inside c.args.self.now c.self.view_is c.args.len c.self.invariant c.requires
