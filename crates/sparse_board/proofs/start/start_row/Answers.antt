use Rattle.std.proofs.Common.{◌+◌, ◌*◌, ◌∙◌, arith}
use Rattle.simplex_form.specs.Form.{Form}
use Rattle.sparse_ratios.specs.Terms.{number_at}
use Rattle.tableau_core.specs.Start.{form_of}
use Rattle.whole_rows.specs.Rows.{number_of}
use Rattle.sparse_board.specs.Numbers.{row_columns}
use Rattle.sparse_board.proofs.HeldLemmas.{below_less}
use Rattle.sparse_board.proofs.StartSteps.{entries_are, reals_held, side_entries, unit_added}
use Rattle.sparse_board.proofs.start.start_row.Goals as goal

pub push_any-requires-clause-above : goal.push_any-requires-clause-above
push_any-requires-clause-above c =
    below_less c.args.c (c.args.c + c.args.i) (row_columns c.push_row.new.row)
    c.push_row.ensures.held.below (omega arith)

pub returns-clause-entries : goal.returns-clause-entries
returns-clause-entries c matrix same right costs j b =
    let F : Form = form_of c.args.m c.args.c matrix right costs in
    c.new.ensures.numbers j (omega (arith, b))
    ∙ side_entries F c.args.i c.requires.within c.args.side.now c.push_any.new.self
    c.push_any-2.new.self
    (unit_added F c.args.i c.requires.within c.one.result c.push_row.new.row c.push_any.new.self
    c.one.ensures
    (reals_held F c.args.i c.requires.within
    (λ k. number_at c.args.terms.now (c.args.i * c.args.c + k))
    same c.push_row.new.row c.push_row.ensures.held)
    c.push_any.ensures)
    c.push_any-2.ensures j b

pub returns-then-put_row-clause-entries : goal.returns-then-put_row-clause-entries
returns-then-put_row-clause-entries c matrix same right costs j b =
    let F : Form = form_of c.args.m c.args.c matrix right costs in
    c.of_whole.ensures.numbers j
    ∙ entries_are F c.args.i c.requires.within (number_of c.put_row.new.row)
    (λ k d. c.put_row.ensures.reals c.if-put_row.true k d ∙ same k d)
    (c.put_row.ensures.unit c.if-put_row.true)
    (λ k d e n. c.put_row.ensures.others c.if-put_row.true k d (omega (arith, e, c.in_ok-narrow.ensures.width)) n) j b
