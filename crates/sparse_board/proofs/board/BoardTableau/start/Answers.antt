use Rattle.std.proofs.Common.{◌+◌, ◌∙◌, ap, arith, length, subst}
use Rattle.std.proofs.lemmas.List.FromFn.{length-range_with_len}
use Rattle.simplex_form.specs.Form.{Form}
use Rattle.tableau_core.specs.KeptLaws.{started_read}
use Rattle.tableau_core.specs.Start.{form_of}
use Rattle.sparse_board.specs.declared.board.Board.TheInside.{Inside}
use Rattle.sparse_board.specs.Marking.{AreNumbersMarked}
use Rattle.sparse_board.specs.Kept.{contents_of}
use Rattle.sparse_board.proofs.BoardSteps.{numbers_of, value_agrees}
use Rattle.sparse_board.proofs.StartSteps.{start-kept}
use Rattle.sparse_board.proofs.board.BoardTableau.start.Goals as goal

abbrev form : goal.In_ok-cost_rows → Form
form c = form_of c.args.m c.args.c c.args.matrix.now c.args.right.now c.args.costs.now

abbrev made : goal.In_ok-cost_rows → Inside
made c = record {
  reals = c.args.c;
  rows = c.in_ok-rows.rows;
  costs = c.in_ok-cost_rows.cost_rows;
  step = c.in_ok-step.step;
  marks = c.in_ok-marks.marks;
  changes = c.in_ok-changes.changes;
  basis = c.in_ok-basis.basis;
}

pub invariant_of-result : goal.invariant_of-result
invariant_of-result c =
    start-kept (made c) c.args.m c.in_ok-rows.ensures.count (omega (arith, c.if-c-m.false))
    c.in_ok-rows.ensures.wide c.in_ok-cost_rows.ensures.first_wide
    c.in_ok-cost_rows.ensures.second_wide c.in_ok-step.ensures
    (ap length c.in_ok-basis.ensures ∙ length-range_with_len c.args.c c.args.m)
    c.in_ok-changes.ensures
    c.in_ok-marks.ensures.columns
    (c.in_ok-marks.ensures.rows ∙ ap length c.deref.ensures.value)
    (subst (AreNumbersMarked (c.args.c + c.args.m + 1) c.in_ok-marks.marks) c.deref.ensures.value
    c.in_ok-marks.ensures.marked)

pub returns-clause-board : goal.returns-clause-board
returns-clause-board c =
    started_read (form c) c.in_ok-basis.basis.items (numbers_of (made c)) (contents_of (made c))
    (value_agrees c.in_ok-cost_rows.cost_rows.in_first (made c))
    c.in_ok-rows.ensures.count c.in_ok-basis.ensures (c.in_ok-rows.ensures.entries c.args.right.now
    c.args.costs.now) c.in_ok-rows.ensures.sides
    (c.in_ok-cost_rows.ensures.first c.args.right.now c.args.costs.now)
    (c.in_ok-cost_rows.ensures.second c.args.right.now)
