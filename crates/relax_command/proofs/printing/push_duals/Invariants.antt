use Rattle.std.proofs.Common.{◌≡◌, ◌++◌}
use Rattle.cert_text.specs.Text.{row_lines, text_of_lines}
use Rattle.relaxed_model.specs.Relaxed.{hard_rows}
use Rattle.relax_command.proofs.printing.push_duals.Given as goal

abbrev pub invariant-loop-row : goal.invariant-loop-row
invariant-loop-row l =
    l.draft ++ text_of_lines (row_lines (hard_rows l.row-iterator) l.left)
    ≡ l.fn.draft ++ text_of_lines (row_lines (hard_rows l.rows.items) l.duals)
