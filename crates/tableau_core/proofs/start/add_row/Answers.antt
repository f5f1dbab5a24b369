use Rattle.std.proofs.Common.{ap, arith, drop, inl, refl, subst, sym, ◌∙◌, ◌+◌, ◌-◌, ◌∷◌}
use Rattle.std.proofs.Math.ListN.{drop_of_length-le}
use Rattle.std.proofs.lemmas.List.{drop_more}
use Rattle.ratio_core.specs.Rational.{sum_fits, ◌+ℚ◌}
use Rattle.rational_laws.specs.Field.{+ℚ-zero}
use Rattle.tableau_core.specs.Row.{cell}
use Rattle.tableau_core.specs.TermSteps.{AreFitTo, IsDoneTo, at_end, at_term, done_all, done_more, done_none, fit_all, fit_more, on_err, term_number, term_past, term_untouched, term_within}
use Rattle.tableau_core.proofs.start.add_row.Goals as goal

pub loop-term-init : goal.loop-term-init
loop-term-init c = record {
  done = done_none ◌+ℚ◌ c.args.from c.args.c c.args.terms.now c.args.sums.now c.requires.terms;
  fit = λ j b. inl refl;
  all_fit = c.requires.all_fit;
}

pub overflow_sub-j : goal.overflow_sub-j
overflow_sub-j c =
    term_past ◌+ℚ◌ c.args.from c.args.c c.args.terms.now c.args.sums.now c.loop-term.sums
    c.term-item.result (drop (c.loop-term.term-index + 1) c.args.terms.now)
    (at_term ◌+ℚ◌ c.args.from c.args.c c.args.terms.now c.args.sums.now c.loop-term.sums
    c.loop-term.term-index c.term-item.result c.loop-term-test.true c.term-item.is
    c.loop-term.invariant.done)

pub add_at-requires-clause-within : goal.add_at-requires-clause-within
add_at-requires-clause-within c =
    omega (
      arith,
      c.requires.long,
      c.loop-term.auto.sums,
      term_within ◌+ℚ◌ c.args.from c.args.c
          c.args.terms.now c.args.sums.now c.loop-term.sums c.term-item.result
          (drop (c.loop-term.term-index + 1) c.args.terms.now)
          (at_term ◌+ℚ◌ c.args.from c.args.c c.args.terms.now c.args.sums.now c.loop-term.sums
          c.loop-term.term-index c.term-item.result c.loop-term-test.true c.term-item.is
          c.loop-term.invariant.done),
    )

pub returns-in_err-add_at-clause-refused : goal.returns-in_err-add_at-clause-refused
returns-in_err-add_at-clause-refused c =
    let left = drop (c.loop-term.term-index + 1) c.args.terms.now in
    let t = c.term-item.result in
    let d : IsDoneTo ◌+ℚ◌ c.args.from c.args.c c.args.terms.now (t ∷ left) c.args.sums.now
    c.loop-term.sums = (at_term ◌+ℚ◌ c.args.from c.args.c c.args.terms.now c.args.sums.now c.loop-term.sums
    c.loop-term.term-index c.term-item.result c.loop-term-test.true c.term-item.is
    c.loop-term.invariant.done) in
    on_err _ c.from_residual.result (
      t.0 - c.args.from,
      term_within ◌+ℚ◌ c.args.from c.args.c c.args.terms.now c.args.sums.now c.loop-term.sums t left
          d,
      (λ i. sum_fits
          (sym (term_untouched ◌+ℚ◌ c.args.from c.args.c c.args.terms.now c.args.sums.now
          c.loop-term.sums t left d) i)
          (term_number ◌+ℚ◌ c.args.from c.args.c c.args.terms.now c.args.sums.now c.loop-term.sums t
          left d i)) ∙ sym c.in_err-add_at.ensures.fits,
    )

pub loop-term-preserved : goal.loop-term-preserved
loop-term-preserved c =
    let left = drop (c.loop-term.term-index + 1) c.args.terms.now in
    let t = c.term-item.result in
    let d : IsDoneTo ◌+ℚ◌ c.args.from c.args.c c.args.terms.now (t ∷ left) c.args.sums.now
    c.loop-term.sums = (at_term ◌+ℚ◌ c.args.from c.args.c c.args.terms.now c.args.sums.now c.loop-term.sums
    c.loop-term.term-index c.term-item.result c.loop-term-test.true c.term-item.is
    c.loop-term.invariant.done) in
    record {
      done = done_more ◌+ℚ◌ c.args.from c.args.c c.args.terms.now c.args.sums.now c.loop-term.sums
          (λ j b. +ℚ-zero (cell c.args.sums.now j)) t left d c.add_at.new.sums
          c.add_at.ensures.long c.in_ok-add_at.ensures.here c.add_at.ensures.others;
      fit = fit_more c.args.from c.args.c c.args.terms.now c.args.sums.now t left
          (subst (λ ts. AreFitTo c.args.from c.args.c c.args.terms.now ts c.args.sums.now)
          (drop_more c.args.terms.now c.loop-term.term-index t c.loop-term-test.true
          ∙ ap (λ x. x ∷ left) (sym c.term-item.is)) c.loop-term.invariant.fit)
          (term_past ◌+ℚ◌ c.args.from c.args.c c.args.terms.now c.args.sums.now c.loop-term.sums t
          left d)
          (ap (λ x. sum_fits x t.1)
          (sym (term_untouched ◌+ℚ◌ c.args.from c.args.c c.args.terms.now c.args.sums.now
          c.loop-term.sums t left d)) ∙ sym c.in_ok-add_at.ensures.fits);
      all_fit = c.add_at.ensures.all_fit;
    }

pub returns-clause-added : goal.returns-clause-added
returns-clause-added c =
    done_all ◌+ℚ◌ c.args.from c.args.c c.args.terms.now c.args.sums.now c.loop-term.sums
    (λ j b. +ℚ-zero (cell c.args.sums.now j))
    (at_end ◌+ℚ◌ c.args.from c.args.c c.args.terms.now c.args.sums.now c.loop-term.sums
    c.loop-term.term-index c.loop-term-test.false c.loop-term.invariant.done)

pub returns-clause-fits : goal.returns-clause-fits
returns-clause-fits c =
    fit_all c.args.from c.args.c c.args.terms.now c.args.sums.now
    (subst (λ ts. AreFitTo c.args.from c.args.c c.args.terms.now ts c.args.sums.now)
    (drop_of_length-le c.args.terms.now c.loop-term-test.false) c.loop-term.invariant.fit)
    c.requires.all_fit
