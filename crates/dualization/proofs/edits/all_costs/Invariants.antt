use Rattle.std.specs.Prelude.{◌≡◌, ◌++◌}
use Rattle.dualization.specs.Rows.{all_bounds}
use Rattle.dualization.proofs.edits.all_costs.Given as goal

abbrev pub invariant-loop-group : goal.invariant-loop-group
invariant-loop-group l =
    l.costs.items ++ all_bounds l.group-iterator ≡ l.parts ++ all_bounds l.groups.items
