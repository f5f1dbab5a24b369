use Rattle.std.proofs.Common.{◌≡◌, ◌++◌}
use Rattle.cert_text.specs.Text.{text_of_lines}
use Rattle.relax_command.specs.Text.{violation_lines}
use Rattle.relaxed_model.specs.Relaxed.{soft_rows}
use Rattle.relax_command.proofs.printing.push_violations.Given as goal

abbrev pub invariant-loop-row : goal.invariant-loop-row
invariant-loop-row l =
    l.draft ++ text_of_lines (violation_lines (soft_rows l.row-iterator) l.left)
    ≡ l.fn.draft ++ text_of_lines (violation_lines (soft_rows l.rows.items) l.violations)
