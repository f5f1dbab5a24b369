use Rattle.std.proofs.Common.{arith, drop, refl, ◌∙◌, ◌+◌}
use Rattle.sparse_board.proofs.FirstCostSteps.{lowered_at, lowered_end, lowered_fits, lowered_others, lowered_place, lowered_start, lowered_sums, lowered_term, lowered_within}
use Rattle.sparse_board.proofs.starting.lower_terms.Goals as goal

pub loop-term-init : goal.loop-term-init
loop-term-init c = record {
  width = refl;
  den = c.requires.den;
  held = lowered_start c.args.from c.args.c c.args.terms.now c.args.row.now c.args.row.now refl
      c.requires.terms;
}

pub overflow_sub-j : goal.overflow_sub-j
overflow_sub-j c =
    lowered_place c.args.from c.args.c c.args.terms.now c.args.row.now c.loop-term.row
    c.term-item.result (drop (c.loop-term.term-index + 1) c.args.terms.now)
    (lowered_at c.args.from c.args.c c.args.terms.now c.args.row.now c.loop-term.row
    c.loop-term.term-index c.term-item.result c.loop-term-test.true c.term-item.is
    c.loop-term.invariant.held)

pub lower_whole-requires-clause-within : goal.lower_whole-requires-clause-within
lower_whole-requires-clause-within c =
    let b = lowered_within c.args.from c.args.c c.args.terms.now c.args.row.now c.loop-term.row
    c.term-item.result (drop (c.loop-term.term-index + 1) c.args.terms.now)
    (lowered_at c.args.from c.args.c c.args.terms.now c.args.row.now c.loop-term.row
    c.loop-term.term-index c.term-item.result c.loop-term-test.true c.term-item.is
    c.loop-term.invariant.held) in
    omega (arith, b, c.requires.wide, c.loop-term.invariant.width)

pub loop-term-preserved : goal.loop-term-preserved
loop-term-preserved c = record {
  width = c.lower_whole.ensures.width ∙ c.loop-term.invariant.width;
  den = c.lower_whole.ensures.den;
  held =
      lowered_term c.args.from c.args.c c.args.terms.now c.args.row.now c.loop-term.row
      c.term-item.result (drop (c.loop-term.term-index + 1) c.args.terms.now)
      (lowered_at c.args.from c.args.c c.args.terms.now c.args.row.now c.loop-term.row
      c.loop-term.term-index c.term-item.result c.loop-term-test.true c.term-item.is
      c.loop-term.invariant.held)
      c.lower_whole.new.row c.requires.wide
      (c.lower_whole.ensures.lowered c.if-not-lower_whole.false);
}

pub returns-clause-reals : goal.returns-clause-reals
returns-clause-reals c _ =
    lowered_sums c.args.from c.args.c c.args.terms.now c.args.row.now c.loop-term.row
    (lowered_end c.args.from c.args.c c.args.terms.now c.args.row.now c.loop-term.row
    c.loop-term.term-index c.loop-term-test.false c.loop-term.invariant.held) c.requires.wide

pub returns-clause-fits : goal.returns-clause-fits
returns-clause-fits c _ =
    lowered_fits c.args.from c.args.c c.args.terms.now c.args.row.now c.loop-term.row
    (lowered_end c.args.from c.args.c c.args.terms.now c.args.row.now c.loop-term.row
    c.loop-term.term-index c.loop-term-test.false c.loop-term.invariant.held) c.requires.wide

pub returns-clause-others : goal.returns-clause-others
returns-clause-others c _ =
    lowered_others c.args.from c.args.c c.args.terms.now c.args.row.now c.loop-term.row
    (lowered_end c.args.from c.args.c c.args.terms.now c.args.row.now c.loop-term.row
    c.loop-term.term-index c.loop-term-test.false c.loop-term.invariant.held) c.requires.wide
