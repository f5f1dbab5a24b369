use Rattle.std.proofs.Common.{cond, drop, ◌+◌}
use Rattle.ratio_core.specs.Rational.{neg_ℚ}
use Rattle.sparse_ratios.specs.Terms.{number_at}
use Rattle.sparse_lists.specs.AcrossLaws.{across_all, across_at, across_low, across_more, across_none, signed_zero}
use Rattle.sparse_lists.proofs.across.put_across.Goals as goal

pub loop-term-init : goal.loop-term-init
loop-term-init c =
    across_none c.args.place
    (λ b. cond c.args.negated (neg_ℚ (number_at c.args.terms.now b))
    (number_at c.args.terms.now b)) c.args.terms.now c.args.lists.now c.requires.rise
    c.requires.low

pub put_in-requires : goal.put_in-requires
put_in-requires c = record {
  low = across_low c.args.place (λ q. cond c.args.negated (neg_ℚ q) q)
      (signed_zero c.args.negated) c.args.terms.now c.args.lists.now c.loop-term.lists
      c.requires.low c.term-item.result (drop (c.loop-term.term-index + 1) c.args.terms.now)
      (across_at c.args.place (λ q. cond c.args.negated (neg_ℚ q) q) (signed_zero c.args.negated)
      c.args.terms.now c.args.lists.now c.loop-term.lists c.requires.low c.loop-term.term-index
      c.term-item.result c.loop-term-test.true c.term-item.is c.loop-term.invariant);
}

pub loop-term-preserved : goal.loop-term-preserved
loop-term-preserved c =
    across_more c.args.place (λ q. cond c.args.negated (neg_ℚ q) q) (signed_zero c.args.negated)
    c.args.terms.now c.args.lists.now c.loop-term.lists c.requires.low c.term-item.result
    (drop (c.loop-term.term-index + 1) c.args.terms.now)
    (across_at c.args.place (λ q. cond c.args.negated (neg_ℚ q) q) (signed_zero c.args.negated)
    c.args.terms.now c.args.lists.now c.loop-term.lists c.requires.low c.loop-term.term-index
    c.term-item.result c.loop-term-test.true c.term-item.is c.loop-term.invariant) c.signed.result c.signed.ensures c.put_in.new.lists c.in_ok-put_in.ensures

pub returns : goal.returns
returns c =
    across_all c.args.place (λ q. cond c.args.negated (neg_ℚ q) q) (signed_zero c.args.negated)
    c.args.terms.now c.args.lists.now c.loop-term.lists c.requires.low c.loop-term.term-index
    c.loop-term-test.false c.loop-term.invariant
