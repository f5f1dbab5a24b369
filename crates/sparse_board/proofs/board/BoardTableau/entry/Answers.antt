use Rattle.std.proofs.Common.{arith, subst, sym, ◌<◌, ◌∙◌}
use Rattle.sparse_board.proofs.BoardSteps.{column_within, entry_is, row_within, unmarked_is}
use Rattle.sparse_board.proofs.board.BoardTableau.entry.Goals as goal

pub has-requires-clause-column : goal.has-requires-clause-column
has-requires-clause-column c =
    omega (
      arith,
      column_within c.self.inside c.args.self.now c.args.q c.self.view_is c.requires.column,
      c.self.invariant.mark_columns,
    )

pub has-requires-clause-row : goal.has-requires-clause-row
has-requires-clause-row c =
    subst (λ n. c.args.r < n) (sym c.self.invariant.mark_rows)
    (row_within c.self.inside c.args.self.now c.args.r c.self.view_is c.requires.row)

pub returns-then-not-has : goal.returns-then-not-has
returns-then-not-has c =
    c.zero.ensures
    ∙ unmarked_is c.self.inside c.args.self.now c.self.view_is c.self.invariant c.args.r c.args.q
    c.requires.row c.requires.column (sym c.has.ensures ∙ c.if-not-has.true)

pub returns : goal.returns
returns c =
    c.number.ensures ∙ entry_is c.self.inside c.args.self.now c.self.view_is c.args.r c.args.q
    c.index.result.now c.requires.row c.requires.column c.index.ensures
