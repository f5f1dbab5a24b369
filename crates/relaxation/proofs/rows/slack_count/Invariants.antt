use Rattle.std.specs.Prelude.{◌≡◌, ◌+◌}
use Rattle.relaxed_model.specs.Relaxed.{slack_count}
use Rattle.relaxation.proofs.rows.slack_count.Given as goal

abbrev pub invariant-loop-row : goal.invariant-loop-row
invariant-loop-row l = l.count + slack_count l.row-iterator ≡ slack_count l.rows.items
