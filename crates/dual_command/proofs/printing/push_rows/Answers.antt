use Rattle.std.proofs.Common.{◌+◌, ◌++◌, ◌∷◌, ◌∙◌, ap, arith, drop, sym}
use Rattle.std.proofs.Math.ListN.{drop_of_length-le}
use Rattle.std.proofs.lemmas.List.{drop_more}
use Rattle.cert_text.specs.Text.{ended, row_line, row_lines, text_of_lines}
use Rattle.dual_command.proofs.Lines.{no_duals_left, no_rows, rows_more}
use Rattle.dual_command.proofs.printing.push_rows.Goals as goal

pub loop-i-init : goal.loop-i-init
loop-i-init c =
    ap (λ rows. c.args.draft.now ++ text_of_lines (row_lines rows c.args.duals.now))
    c.iter-row-items.ensures.items

pub loop-i-preserved : goal.loop-i-preserved
loop-i-preserved c =
    let i = c.loop-i.i in
    let duals = c.args.duals.now in
    let own = c.index-duals-i.result in
    rows_more c.loop-i.row-iterator c.next.new.self (drop i duals) (drop (i + 1) duals)
    c.in-Some.row.now own c.loop-i.draft c.push_row_duals.new.draft _ c.loop-i.invariant
    c.in-Some.ensures.steps
    (drop_more duals i own (omega arith) ∙ ap (λ y. y ∷ drop (i + 1) duals)
    (sym c.index-duals-i.is))
    (c.in_ok-push_row_duals.ensures ∙ ap (λ qs. c.loop-i.draft
    ++ ended (row_line (c.in-Some.row.now, qs))) c.as_slice.ensures)

pub returns-then-i-duals : goal.returns-then-i-duals
returns-then-i-duals c =
    no_duals_left c.loop-i.row-iterator (drop c.loop-i.i c.args.duals.now) c.loop-i.draft _
    c.loop-i.invariant (drop_of_length-le c.args.duals.now (omega arith))

pub returns : goal.returns
returns c =
    no_rows c.loop-i.row-iterator (drop c.loop-i.i c.args.duals.now) c.loop-i.draft _
    c.loop-i.invariant c.in-None.ensures.steps.0
