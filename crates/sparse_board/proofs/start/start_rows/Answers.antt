use Rattle.std.proofs.Common.{◌≡◌, ◌+◌, ◌*◌, ◌<◌, ◌≤◌, ◌∙◌, arith, length, subst, ℕ}
use Rattle.simplex_form.specs.Basis.{start}
use Rattle.simplex_form.specs.Board.{entry}
use Rattle.simplex_form.specs.Form.{Form}
use Rattle.sparse_ratios.specs.Terms.{AreTermsSplit, number_at}
use Rattle.tableau_core.specs.Row.{cell}
use Rattle.tableau_core.specs.ItemLaws.{each_pushed, item_is, pushed_long}
use Rattle.tableau_core.specs.Start.{form_of}
use Rattle.sparse_board.specs.Rows.{now_of, numbers, width_at}
use Rattle.sparse_board.specs.Starting.{AreTermsOf}
use Rattle.sparse_board.proofs.start.start_rows.Goals as goal
use Rattle.sparse_board.proofs.start.start_rows.Goals.{After-terms_between-entries}

next_lem : (i c : ℕ) → i * c + c ≡ (i + 1) * c
next_lem i c = omega arith

low_lem : (i c : ℕ) → i * c ≤ i * c + c
low_lem i c = omega arith

-- the terms after row i
ends_at : (c : After-terms_between-entries)
    → AreTermsSplit (c.loop-i.i * c.args.c + c.args.c) c.row_end-end.result c.terms-terms.result.now
ends_at c =
    c.row_end-end.ensures.split (length c.args.matrix.now) (c.loop-i.i * c.args.c)
    c.terms-terms.ensures.terms (low_lem c.loop-i.i c.args.c) c.loop-i.invariant.split

-- those of row i
terms_of : (c : After-terms_between-entries)
    → AreTermsOf (c.loop-i.i * c.args.c) (c.loop-i.i * c.args.c + c.args.c)
    c.terms-terms.result.now c.terms_between-entries.result.now
terms_of c =
    c.terms_between-entries.ensures (length c.args.matrix.now) (c.loop-i.i * c.args.c)
    (c.loop-i.i * c.args.c + c.args.c) c.terms-terms.ensures.terms c.loop-i.invariant.split
    (ends_at c)

pub start_row-requires-clause-terms : goal.start_row-requires-clause-terms
start_row-requires-clause-terms c =
    (terms_of (goal.at.start_row-requires-clause-terms c).After-terms_between-entries).terms

pub loop-i-preserved : goal.loop-i-preserved
loop-i-preserved c =
    let i = c.loop-i.i in
    let count = c.loop-i.invariant.count in
    let rows = c.loop-i.rows.items in
    let next = c.push.new.self.items in
    let new = c.in_ok-start_row.field-0 in
    let terms = c.terms-terms.result.now in
    let entries = c.terms_between-entries.result.now in
    let split : AreTermsSplit (i * c.args.c + c.args.c) c.row_end-end.result terms =
    ends_at (goal.at.loop-i-preserved c).After-terms_between-entries in
    let some : AreTermsOf (i * c.args.c) (i * c.args.c + c.args.c) terms entries =
    terms_of (goal.at.loop-i-preserved c).After-terms_between-entries in
    let same : (j : ℕ) → j < c.args.c
    → number_at entries (i * c.args.c + j) ≡ cell c.args.matrix.now (i * c.args.c + j) =
    λ j b. some.numbers (i * c.args.c + j) (omega arith) (omega (arith, b))
    ∙ c.terms-terms.ensures.numbers (i * c.args.c + j) in
    record {
      few = c.row_end-end.ensures.within;
      split = subst (λ k. AreTermsSplit k c.row_end-end.result terms) (next_lem i c.args.c) split;
      room = c.in_ok-start_row.ensures.room;
      count = pushed_long i rows next new count c.in_ok-push.ensures.items;
      wide = each_pushed (λ k o. width_at (now_of o) ≡ c.args.c + c.args.m + 1) i rows next new
          count c.loop-i.invariant.wide c.in_ok-start_row.ensures.wide c.in_ok-push.ensures.items;
      entries = λ right costs.
          let F : Form = form_of c.args.m c.args.c c.args.matrix.now right costs in
          each_pushed (λ k o. (j : ℕ) → j < c.args.c + c.args.m → numbers (now_of o) j ≡ entry F
          (start F) j k) i rows next new count (c.loop-i.invariant.entries right costs)
          (c.in_ok-start_row.ensures.entries c.args.matrix.now same right costs)
          c.in_ok-push.ensures.items;
      sides = each_pushed (λ k o. numbers (now_of o) (c.args.c + c.args.m) ≡ cell c.args.right.now
          k) i rows next new count c.loop-i.invariant.sides (c.in_ok-start_row.ensures.side
          ∙ item_is c.args.right.now i c.index-right-i.result c.loop-i-test.true c.index-right-i.is)
          c.in_ok-push.ensures.items;
    }
