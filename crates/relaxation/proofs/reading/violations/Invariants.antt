use Rattle.std.specs.Prelude.{◌≡◌, ◌++◌, ◌≤◌, length}
use Rattle.relaxed_model.specs.Relaxed.{slack_count, slack_violations}
use Rattle.relaxation.proofs.reading.violations.Given as goal

abbrev pub invariant-loop-row : goal.invariant-loop-row
invariant-loop-row l =
    (l.violations.items ++ slack_violations l.row-iterator l.left ≡ slack_violations l.rows.items l.slacks)
    × (slack_count l.row-iterator ≤ length l.left)
