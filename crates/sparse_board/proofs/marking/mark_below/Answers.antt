use Rattle.std.proofs.Common.{◌<◌, arith, subst, sym}
use Rattle.sparse_board.proofs.MarkingSteps.{keep_none, put_keeps}
use Rattle.sparse_board.proofs.marking.mark_below.Goals as goal

pub set-requires-clause-column : goal.set-requires-clause-column
set-requires-clause-column c =
    subst (λ n. c.args.j < n) (sym c.requires.columns) c.if-j-width.true

pub returns-then-j-width-clause-marked : goal.returns-then-j-width-clause-marked
returns-then-j-width-clause-marked c = λ _. c.set.ensures.here

pub returns-then-j-width-clause-kept : goal.returns-then-j-width-clause-kept
returns-then-j-width-clause-kept c =
    put_keeps c.args.j c.args.i c.args.marks.now c.set.new.self c.set.ensures

pub returns-else-j-width-clause-marked : goal.returns-else-j-width-clause-marked
returns-else-j-width-clause-marked c = λ b. absurd (omega (arith, b, c.if-j-width.false))

pub returns-else-j-width-clause-kept : goal.returns-else-j-width-clause-kept
returns-else-j-width-clause-kept c = keep_none c.args.marks.now
