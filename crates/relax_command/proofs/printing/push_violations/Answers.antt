use Rattle.std.proofs.Common.{ap, sym, ◌∙◌}
use Rattle.relaxed_model.specs.Relaxed.{is_soft, soft_rows}
use Rattle.relax_command.specs.Text.{violation_line}
use Rattle.relax_command.proofs.Filtered.{first_passes, first_skipped}
use Rattle.relax_command.proofs.Lines.{line_more, line_same, no_rows, none_left}
use Rattle.relax_command.proofs.printing.push_violations.Goals as goal

pub loop-row-preserved-then-is_soft : goal.loop-row-preserved-then-is_soft
loop-row-preserved-then-is_soft c =
    line_more violation_line (soft_rows c.loop-row.row-iterator) (soft_rows c.next.new.self)
    c.loop-row.left.now c.in-Some-split_first.others.now c.in-Some.row.now c.in-Some-split_first.number.now
    c.loop-row.draft c.push_violation.new.draft _ c.loop-row.invariant
    (first_passes is_soft c.loop-row.row-iterator c.next.new.self c.in-Some.row.now
    c.in-Some.ensures.steps (sym c.is_soft.ensures ∙ c.if-is_soft.true))
    c.in-Some-split_first.ensures.cases.0 c.in_ok-push_violation.ensures

pub loop-row-preserved : goal.loop-row-preserved
loop-row-preserved c =
    line_same violation_line (soft_rows c.loop-row.row-iterator) (soft_rows c.next.new.self)
    c.loop-row.left.now c.loop-row.draft _ c.loop-row.invariant
    (first_skipped is_soft c.loop-row.row-iterator c.next.new.self c.in-Some.row.now
    c.in-Some.ensures.steps (sym c.is_soft.ensures ∙ c.if-is_soft.false))

pub returns-in_default : goal.returns-in_default
returns-in_default c =
    none_left violation_line (soft_rows c.loop-row.row-iterator) c.loop-row.left.now c.loop-row.draft _
    c.loop-row.invariant c.in_default.ensures.cases

pub returns : goal.returns
returns c =
    no_rows violation_line (soft_rows c.loop-row.row-iterator) c.loop-row.left.now c.loop-row.draft _
    c.loop-row.invariant (ap soft_rows c.in-None.ensures.steps.0)
