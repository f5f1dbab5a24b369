use Rattle.std.proofs.Common.{rules, sym, subst, ap, arith, ◌∙◌, ◌≡◌, ◌+◌, ◌-◌, ◌<◌, ◌≤◌, ℕ, length, drop, take, slice_index_or}
use Rattle.ratio_core.specs.Rational.{zero_ℚ}
use Rattle.sparse_ratios.specs.Terms.{AreTerms, AreTermsSplit, HaveNoZeros, number_at, numbers_of}
use Rattle.std.proofs.Common.{nat_lt, of_calls}
use Rattle.std.proofs.lemmas.Bool.{lt-ltb, ltb-false, ltb-true}
use Rattle.std.proofs.lemmas.Fn.{always_returns_same}
use Rattle.sparse_ratios.specs.TermLaws.{terms_rise}
use Rattle.sparse_ratios.proofs.ratios.count_below.Goals as goal

pub returns-clause-split : goal.returns-clause-split
returns-clause-split c = λ from to h.
    let point = c.partition_point.ensures.partitioned (λ t. nat_lt t.0 c.args.place)
    (always_returns_same _ _ _ (λ a r f k. search (rules, of_calls)))
    (λ i j d l m up. lt-ltb (slice_index_or c.args.terms.now i d).0 c.args.place
    (omega (
      arith,
      terms_rise from to c.args.terms.now i j d h l m,
      ltb-true (slice_index_or c.args.terms.now j d).0 c.args.place up,
    ))) in
    record {
      before = λ k d b. ltb-true (slice_index_or c.args.terms.now k d).0 c.args.place
          (point.0 k d (omega arith) b);
      after = λ k d b e. ltb-false (slice_index_or c.args.terms.now k d).0 c.args.place
          (point.1 k d b e);
    }
