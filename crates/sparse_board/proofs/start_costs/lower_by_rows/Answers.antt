use Rattle.std.proofs.Common.{◌≡◌, ◌+◌, ◌*◌, ◌<◌, ◌≤◌, ◌∙◌, arith, length, subst, ℕ}
use Rattle.sparse_ratios.specs.Terms.{AreTermsSplit, number_at}
use Rattle.tableau_core.specs.Row.{cell}
use Rattle.sparse_board.specs.Starting.{AreTermsOf}
use Rattle.sparse_board.proofs.FirstCostSteps.{owed_fit, owed_none, owed_prices, owed_row}
use Rattle.sparse_board.proofs.start_costs.lower_by_rows.Goals as goal
use Rattle.sparse_board.proofs.start_costs.lower_by_rows.Goals.{After-terms_between-entries}

next_lem : (i c : ℕ) → i * c + c ≡ (i + 1) * c
next_lem i c = omega arith

low_lem : (i c : ℕ) → i * c ≤ i * c + c
low_lem i c = omega arith

-- the terms after row i
ends_at : (c : After-terms_between-entries)
    → AreTermsSplit (c.loop-i.i * c.args.c + c.args.c) c.row_end-end.result c.terms-terms.result.now
ends_at c =
    c.row_end-end.ensures.split (length c.args.matrix.now) (c.loop-i.i * c.args.c)
    c.terms-terms.ensures.terms (low_lem c.loop-i.i c.args.c) c.loop-i.invariant.split

-- those of row i
terms_of : (c : After-terms_between-entries)
    → AreTermsOf (c.loop-i.i * c.args.c) (c.loop-i.i * c.args.c + c.args.c)
    c.terms-terms.result.now c.terms_between-entries.result.now
terms_of c =
    c.terms_between-entries.ensures (length c.args.matrix.now) (c.loop-i.i * c.args.c)
    (c.loop-i.i * c.args.c + c.args.c) c.terms-terms.ensures.terms c.loop-i.invariant.split
    (ends_at c)

pub loop-i-init : goal.loop-i-init
loop-i-init c = record {
  few = omega arith;
  split = record {
    before = λ k d b. absurd (omega (arith, b));
    after = λ k d a b. omega arith;
  };
  owed = owed_none c.args.m c.args.c c.args.matrix.now c.args.row.now c.requires.den
      c.requires.wide c.requires.zeros;
}

pub lower_terms-requires-clause-terms : goal.lower_terms-requires-clause-terms
lower_terms-requires-clause-terms c =
    (terms_of (goal.at.lower_terms-requires-clause-terms c).After-terms_between-entries).terms

pub lower_terms-requires-clause-wide : goal.lower_terms-requires-clause-wide
lower_terms-requires-clause-wide c = omega (arith, c.loop-i.invariant.owed.width)

pub lower_terms-requires-clause-den : goal.lower_terms-requires-clause-den
lower_terms-requires-clause-den c = c.loop-i.invariant.owed.den

pub loop-i-preserved : goal.loop-i-preserved
loop-i-preserved c =
    let i = c.loop-i.i in
    let terms = c.terms-terms.result.now in
    let entries = c.terms_between-entries.result.now in
    let lowered = c.if-not-lower_terms.false in
    let split : AreTermsSplit (i * c.args.c + c.args.c) c.row_end-end.result terms =
    ends_at (goal.at.loop-i-preserved c).After-terms_between-entries in
    let some : AreTermsOf (i * c.args.c) (i * c.args.c + c.args.c) terms entries =
    terms_of (goal.at.loop-i-preserved c).After-terms_between-entries in
    let same : (j : ℕ) → j < c.args.c
    → number_at entries (i * c.args.c + j) ≡ cell c.args.matrix.now (i * c.args.c + j) =
    λ j b. some.numbers (i * c.args.c + j) (omega arith) (omega (arith, b))
    ∙ c.terms-terms.ensures.numbers (i * c.args.c + j) in
    record {
      few = c.row_end-end.ensures.within;
      split = subst (λ k. AreTermsSplit k c.row_end-end.result terms) (next_lem i c.args.c) split;
      owed = owed_row c.args.m c.args.c c.args.matrix.now i c.loop-i.row c.loop-i.invariant.owed
          c.lower_terms.new.row entries c.loop-i-test.true c.lower_terms.ensures.den
          c.lower_terms.ensures.width same (c.lower_terms.ensures.reals lowered)
          (c.lower_terms.ensures.fits lowered) (c.lower_terms.ensures.others lowered);
    }

pub returns-then-not-lower_terms-clause-width : goal.returns-then-not-lower_terms-clause-width
returns-then-not-lower_terms-clause-width c =
    c.lower_terms.ensures.width ∙ c.loop-i.invariant.owed.width

pub returns-clause-width : goal.returns-clause-width
returns-clause-width c = c.loop-i.invariant.owed.width

pub returns-clause-prices : goal.returns-clause-prices
returns-clause-prices c _ right costs =
    owed_prices c.args.m c.args.c c.args.matrix.now c.loop-i.i c.loop-i.row
    c.loop-i.invariant.owed (omega (arith, c.loop-i.auto.i-end, c.loop-i-test.false)) right costs

pub returns-clause-fits : goal.returns-clause-fits
returns-clause-fits c _ right costs =
    owed_fit c.args.m c.args.c c.args.matrix.now c.loop-i.i c.loop-i.row
    c.loop-i.invariant.owed (omega (arith, c.loop-i.auto.i-end, c.loop-i-test.false)) right costs
