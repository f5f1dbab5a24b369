use Rattle.std.proofs.Common.{◌+◌, ◌≡◌, ◌∙◌, ap, length, subst, sym}
use Rattle.simplex_form.specs.Search.{best_below}
use Rattle.sparse_board.specs.Kept.{columns_of}
use Rattle.sparse_board.specs.Leaving.{leaves_before, may_leave}
use Rattle.sparse_board.specs.Marking.{AreNumbersMarked}
use Rattle.sparse_board.specs.Rows.{AreSparseRowsWide}
use Rattle.sparse_board.proofs.BoardSteps.{column_within, leaving_is, leaving_row, vec_count}
use Rattle.sparse_board.proofs.board.BoardTableau.leaving.Goals as goal
use Rattle.sparse_board.proofs.board.BoardTableau.leaving.Goals.{After-deref-2}

side_is : (c : After-deref-2) → c.self.inside.reals + c.len.result ≡ columns_of c.self.inside
side_is c =
    ap (λ n. c.self.inside.reals + n) (vec_count c.self.inside c.len.result c.len.ensures)

pub leaving-requires-clause-wide : goal.leaving-requires-clause-wide
leaving-requires-clause-wide c =
    subst (λ l. AreSparseRowsWide (c.self.inside.reals + c.len.result + 1) l) (sym c.deref.ensures.value)
    (subst (λ n. AreSparseRowsWide (n + 1) c.self.inside.rows.items)
    (sym (side_is (goal.at.leaving-requires-clause-wide c).After-deref-2)) c.self.invariant.wide)

pub leaving-requires-clause-columns : goal.leaving-requires-clause-columns
leaving-requires-clause-columns c =
    c.self.invariant.mark_columns
    ∙ ap (λ n. n + 1) (sym (side_is (goal.at.leaving-requires-clause-columns c).After-deref-2))

pub leaving-requires-clause-count : goal.leaving-requires-clause-count
leaving-requires-clause-count c =
    c.self.invariant.mark_rows ∙ ap length (sym c.deref.ensures.value)

pub leaving-requires-clause-marked : goal.leaving-requires-clause-marked
leaving-requires-clause-marked c =
    let a = c.self.inside in
    subst (AreNumbersMarked (a.reals + c.len.result + 1) a.marks) (sym c.deref.ensures.value)
    (subst (λ n. AreNumbersMarked (n + 1) a.marks a.rows.items)
    (sym (side_is (goal.at.leaving-requires-clause-marked c).After-deref-2))
    c.self.invariant.marked)

pub returns-clause-value : goal.returns-clause-value
returns-clause-value c =
    let a = c.self.inside in
    let q = c.args.q in
    c.leaving.ensures.value
    ∙ (λ k. best_below (length (c.deref.ensures.value k)) (may_leave (c.deref.ensures.value k) q)
    (leaves_before (c.deref.ensures.value k) (c.deref-2.ensures.value k)
    (a.reals + vec_count a c.len.result c.len.ensures k) q))
    ∙ leaving_is a q c.args.self.now c.self.view_is
    (column_within a c.args.self.now q c.self.view_is c.requires.column)

pub returns-clause-row : goal.returns-clause-row
returns-clause-row c =
    let a = c.self.inside in
    leaving_row a c.args.q c.args.self.now c.deref.result.now c.leaving.result c.self.view_is
    c.deref.ensures.value
    (column_within a c.args.self.now c.args.q c.self.view_is c.requires.column)
    c.leaving.ensures.candidate
