use Rattle.std.proofs.Common.{◌≡◌, ◌+◌}
use Rattle.dual_model.specs.RowPartLaws.{total_parts}
use Rattle.dualization.proofs.points.left_of_rows.Given as goal

abbrev pub invariant-loop-row : goal.invariant-loop-row
invariant-loop-row l =
    l.left + total_parts l.rows.items ≡ l.count + total_parts l.row-iterator
