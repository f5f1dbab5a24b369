use Rattle.std.specs.Prelude.{◌≡◌, ◌++◌, ◌≤◌, length}
use Rattle.relaxed_model.specs.Relaxed.{slack_count}
use Rattle.relaxation.specs.RelaxedEdits.{edits_of_rows}
use Rattle.relaxation.proofs.edits.push_rows.Given as goal

abbrev pub invariant-loop-row : goal.invariant-loop-row
invariant-loop-row l =
    (l.edits.items ++ edits_of_rows l.row-iterator l.left
    ≡ l.fn.edits.items ++ edits_of_rows l.rows.items l.names)
    × (slack_count l.row-iterator ≤ length l.left)
