use Rattle.std.proofs.Common.{arith, drop, sym, ◌+◌}
use Rattle.tableau_core.specs.TermSteps.{at_end, at_term, done_all, done_more, done_none, term_past, term_within}
use Rattle.tableau_core.proofs.start.put_row.Goals as goal

pub loop-term-init : goal.loop-term-init
loop-term-init c = record {
  done = done_none (λ x t. t) c.args.from c.args.c c.args.terms.now c.args.numbers.now
      c.requires.terms;
  all_fit = c.requires.all_fit;
}

pub overflow_sub-j : goal.overflow_sub-j
overflow_sub-j c =
    let left = drop (c.loop-term.term-index + 1) c.args.terms.now in
    term_past (λ x t. t) c.args.from c.args.c c.args.terms.now c.args.numbers.now
    c.loop-term.numbers c.term-item.result left
    (at_term (λ x t. t) c.args.from c.args.c c.args.terms.now c.args.numbers.now
    c.loop-term.numbers c.loop-term.term-index c.term-item.result c.loop-term-test.true
    c.term-item.is c.loop-term.invariant.done)

pub put_number-requires-clause-within : goal.put_number-requires-clause-within
put_number-requires-clause-within c =
    let left = drop (c.loop-term.term-index + 1) c.args.terms.now in
    omega (
      arith,
      c.requires.long,
      c.loop-term.auto.numbers,
      term_within (λ x t. t) c.args.from
          c.args.c c.args.terms.now c.args.numbers.now c.loop-term.numbers c.term-item.result left
          (at_term (λ x t. t) c.args.from c.args.c c.args.terms.now c.args.numbers.now
          c.loop-term.numbers c.loop-term.term-index c.term-item.result c.loop-term-test.true
          c.term-item.is c.loop-term.invariant.done),
    )

pub loop-term-preserved : goal.loop-term-preserved
loop-term-preserved c = record {
  done =
      let left = drop (c.loop-term.term-index + 1) c.args.terms.now in
      done_more (λ x t. t) c.args.from c.args.c c.args.terms.now c.args.numbers.now
      c.loop-term.numbers (λ j b. sym (c.requires.zeros j b)) c.term-item.result left
      (at_term (λ x t. t) c.args.from c.args.c c.args.terms.now c.args.numbers.now
      c.loop-term.numbers c.loop-term.term-index c.term-item.result c.loop-term-test.true
      c.term-item.is c.loop-term.invariant.done) c.put_number.new.numbers
      c.put_number.ensures.long c.put_number.ensures.here c.put_number.ensures.others;
  all_fit = c.put_number.ensures.all_fit;
}

pub returns-clause-put : goal.returns-clause-put
returns-clause-put c =
    done_all (λ x t. t) c.args.from c.args.c c.args.terms.now c.args.numbers.now
    c.loop-term.numbers (λ j b. sym (c.requires.zeros j b))
    (at_end (λ x t. t) c.args.from c.args.c c.args.terms.now c.args.numbers.now
    c.loop-term.numbers c.loop-term.term-index c.loop-term-test.false c.loop-term.invariant.done)
