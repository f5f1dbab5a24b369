use Rattle.std.proofs.Common.{ap, sym, ◌++◌, ◌∙◌}
use Rattle.std.specs.Prelude.{not}
use Rattle.cert_text.specs.Text.{ended, row_line}
use Rattle.relaxed_model.specs.Relaxed.{hard_rows, is_hard}
use Rattle.relax_command.proofs.Filtered.{first_passes, first_skipped}
use Rattle.relax_command.proofs.Lines.{line_more, line_same, no_rows, none_left}
use Rattle.relax_command.proofs.printing.push_duals.Goals as goal

pub loop-row-preserved-then-not-is_soft : goal.loop-row-preserved-then-not-is_soft
loop-row-preserved-then-not-is_soft c =
    line_more row_line (hard_rows c.loop-row.row-iterator) (hard_rows c.next.new.self)
    c.loop-row.left.now c.in-Some-split_first.others.now c.in-Some.row.now c.in-Some-split_first.own.now
    c.loop-row.draft c.push_row_duals.new.draft _ c.loop-row.invariant
    (first_passes is_hard c.loop-row.row-iterator c.next.new.self c.in-Some.row.now
    c.in-Some.ensures.steps (ap not (sym c.is_soft.ensures ∙ c.if-not-is_soft.true)))
    c.in-Some-split_first.ensures.cases.0
    (c.in_ok-push_row_duals.ensures ∙ ap (λ qs. c.loop-row.draft
    ++ ended (row_line (c.in-Some.row.now, qs))) c.as_slice.ensures)

pub loop-row-preserved : goal.loop-row-preserved
loop-row-preserved c =
    line_same row_line (hard_rows c.loop-row.row-iterator) (hard_rows c.next.new.self)
    c.loop-row.left.now c.loop-row.draft _ c.loop-row.invariant
    (first_skipped is_hard c.loop-row.row-iterator c.next.new.self c.in-Some.row.now
    c.in-Some.ensures.steps (ap not (sym c.is_soft.ensures ∙ c.if-not-is_soft.false)))

pub returns-in_default : goal.returns-in_default
returns-in_default c =
    none_left row_line (hard_rows c.loop-row.row-iterator) c.loop-row.left.now c.loop-row.draft _
    c.loop-row.invariant c.in_default.ensures.cases

pub returns : goal.returns
returns c =
    no_rows row_line (hard_rows c.loop-row.row-iterator) c.loop-row.left.now c.loop-row.draft _
    c.loop-row.invariant (ap hard_rows c.in-None.ensures.steps.0)
