use Rattle.std.proofs.Common.{arith, drop, refl, ◌∙◌, ◌+◌}
use Rattle.sparse_board.proofs.StartSteps.{held_above, held_at, held_end, held_place, held_start, held_term, held_within}
use Rattle.sparse_board.proofs.start.push_row.Goals as goal

pub loop-term-init : goal.loop-term-init
loop-term-init c = record {
  width = refl;
  held = held_start c.args.from c.args.c c.args.terms.now c.args.row.now c.requires.terms
      c.requires.empty;
}

pub overflow_sub-j : goal.overflow_sub-j
overflow_sub-j c =
    held_place c.args.from c.args.c c.args.terms.now c.loop-term.row c.term-item.result
    (drop (c.loop-term.term-index + 1) c.args.terms.now)
    (held_at c.args.from c.args.c c.args.terms.now c.loop-term.row c.loop-term.term-index
    c.term-item.result c.loop-term-test.true c.term-item.is c.loop-term.invariant.held)

pub push_any-requires-clause-above : goal.push_any-requires-clause-above
push_any-requires-clause-above c =
    held_above c.args.from c.args.c c.args.terms.now c.loop-term.row c.term-item.result
    (drop (c.loop-term.term-index + 1) c.args.terms.now)
    (held_at c.args.from c.args.c c.args.terms.now c.loop-term.row c.loop-term.term-index
    c.term-item.result c.loop-term-test.true c.term-item.is c.loop-term.invariant.held)

pub push_any-requires-clause-within : goal.push_any-requires-clause-within
push_any-requires-clause-within c =
    let b = held_within c.args.from c.args.c c.args.terms.now c.loop-term.row c.term-item.result
    (drop (c.loop-term.term-index + 1) c.args.terms.now)
    (held_at c.args.from c.args.c c.args.terms.now c.loop-term.row c.loop-term.term-index
    c.term-item.result c.loop-term-test.true c.term-item.is c.loop-term.invariant.held) in
    omega (arith, b, c.requires.wide, c.loop-term.invariant.width)

pub loop-term-preserved : goal.loop-term-preserved
loop-term-preserved c = record {
  width = c.push_any.ensures.width ∙ c.loop-term.invariant.width;
  held =
      held_term c.args.from c.args.c c.args.terms.now c.loop-term.row c.term-item.result
      (drop (c.loop-term.term-index + 1) c.args.terms.now)
      (held_at c.args.from c.args.c c.args.terms.now c.loop-term.row c.loop-term.term-index
      c.term-item.result c.loop-term-test.true c.term-item.is c.loop-term.invariant.held) c.push_any.new.self c.push_any.ensures;
}

pub returns-clause-held : goal.returns-clause-held
returns-clause-held c =
    held_end c.args.from c.args.c c.args.terms.now c.loop-term.row c.loop-term.term-index
    c.loop-term-test.false c.loop-term.invariant.held
