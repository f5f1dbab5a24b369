use Rattle.std.proofs.Common.{arith, drop, refl, ◌∙◌, ◌+◌}
use Rattle.sparse_board.proofs.WholeStartSteps.{term_place, term_within, whole_at, whole_end, whole_reals, whole_start, whole_term, whole_zeros}
use Rattle.sparse_board.proofs.starting.put_terms.Goals as goal

pub loop-term-init : goal.loop-term-init
loop-term-init c = record {
  width = refl;
  den = c.requires.den;
  held = whole_start c.args.from c.args.c c.args.terms.now c.args.row.now c.requires.terms
      c.requires.zeros;
}

pub overflow_sub-j : goal.overflow_sub-j
overflow_sub-j c =
    term_place c.args.from c.args.c c.args.terms.now c.loop-term.row c.term-item.result
    (drop (c.loop-term.term-index + 1) c.args.terms.now)
    (whole_at c.args.from c.args.c c.args.terms.now c.loop-term.row c.loop-term.term-index
    c.term-item.result c.loop-term-test.true c.term-item.is c.loop-term.invariant.held)

pub put_whole-requires-clause-within : goal.put_whole-requires-clause-within
put_whole-requires-clause-within c =
    let b = term_within c.args.from c.args.c c.args.terms.now c.loop-term.row c.term-item.result
    (drop (c.loop-term.term-index + 1) c.args.terms.now)
    (whole_at c.args.from c.args.c c.args.terms.now c.loop-term.row c.loop-term.term-index
    c.term-item.result c.loop-term-test.true c.term-item.is c.loop-term.invariant.held) in
    omega (arith, b, c.requires.wide, c.loop-term.invariant.width)

pub loop-term-preserved : goal.loop-term-preserved
loop-term-preserved c = record {
  width = c.put_whole.ensures.width ∙ c.loop-term.invariant.width;
  den = c.put_whole.ensures.den;
  held =
      whole_term c.args.from c.args.c c.args.terms.now c.loop-term.row c.term-item.result
      (drop (c.loop-term.term-index + 1) c.args.terms.now)
      (whole_at c.args.from c.args.c c.args.terms.now c.loop-term.row c.loop-term.term-index
      c.term-item.result c.loop-term-test.true c.term-item.is c.loop-term.invariant.held)
      c.put_whole.new.row (omega (arith, c.requires.wide, c.loop-term.invariant.width))
      (c.put_whole.ensures.put c.if-not-put_whole.false);
}

pub returns-clause-reals : goal.returns-clause-reals
returns-clause-reals c _ =
    whole_reals c.args.from c.args.c c.args.terms.now c.loop-term.row
    (whole_end c.args.from c.args.c c.args.terms.now c.loop-term.row c.loop-term.term-index
    c.loop-term-test.false c.loop-term.invariant.held)
    (omega (arith, c.requires.wide, c.loop-term.invariant.width))

pub returns-clause-zeros : goal.returns-clause-zeros
returns-clause-zeros c _ j b w =
    whole_zeros c.args.from c.args.c c.args.terms.now c.loop-term.row
    (whole_end c.args.from c.args.c c.args.terms.now c.loop-term.row c.loop-term.term-index
    c.loop-term-test.false c.loop-term.invariant.held) j b
    (omega (arith, w, c.loop-term.invariant.width))
