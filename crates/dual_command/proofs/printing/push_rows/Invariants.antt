use Rattle.std.proofs.Common.{◌≡◌, ◌++◌, drop}
use Rattle.cert_text.specs.Text.{row_lines, text_of_lines}
use Rattle.dual_command.proofs.printing.push_rows.Given as goal

abbrev pub invariant-loop-i : goal.invariant-loop-i
invariant-loop-i l =
    l.draft ++ text_of_lines (row_lines l.row-iterator (drop l.i l.duals))
    ≡ l.fn.draft ++ text_of_lines (row_lines l.rows.items l.duals)
