use Rattle.std.proofs.Common.{◌≡◌, ◌++◌}
use Rattle.report_core.proofs.Lines.{lines_from}
use Rattle.report_core.proofs.choices.push_lines.Given as goal

abbrev pub invariant-loop-place : goal.invariant-loop-place
invariant-loop-place l =
    l.draft ++ lines_from l.place l.kinds l.choices ≡ l.fn.draft ++ lines_from 0 l.kinds l.choices
