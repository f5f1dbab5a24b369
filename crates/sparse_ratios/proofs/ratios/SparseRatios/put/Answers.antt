use Rattle.std.proofs.Common.{rules, sym, subst, ap, arith, ◌∙◌, ◌≡◌, ◌+◌, ◌-◌, ◌<◌, ◌≤◌, ℕ, length, drop, take, slice_index_or}
use Rattle.ratio_core.specs.Rational.{zero_ℚ}
use Rattle.sparse_ratios.specs.Terms.{AreTerms, AreTermsSplit, HaveNoZeros, number_at, numbers_of}
use Rattle.sparse_ratios.proofs.KeptSteps.{kept_below, kept_put}
use Rattle.sparse_ratios.proofs.ratios.SparseRatios.put.Goals as goal

pub invariant_of-self-2 : goal.invariant_of-self-2
invariant_of-self-2 c =
    let a = c.self.inside in
    let put = c.in_ok-push_term.ensures.ok in
    record {
      terms = subst (λ n. AreTerms 0 n c.push_term.new.terms.items) (sym c.in_ok-len.ensures)
          (put.terms a.len c.self.invariant.terms
          (kept_below a c.args.self.now c.self.view_is c.args.place c.requires));
      nonzero = put.nonzero c.self.invariant.nonzero;
    }

pub returns-clause-ok : goal.returns-clause-ok
returns-clause-ok c =
    ap (λ n. numbers_of n c.push_term.new.terms.items) c.in_ok-len.ensures
    ∙ kept_put c.self.inside c.args.self.now c.self.view_is c.args.place c.args.number
    c.push_term.new.terms.items c.self.invariant c.requires c.in_ok-push_term.ensures.ok
