use Rattle.std.proofs.Common.{◌≡◌, ◌++◌, map, take}
use Rattle.touched_items.specs.Differences.{variables_in}
use Rattle.touched_items.proofs.changed.list_variables.Given as goal

abbrev pub invariant-loop-group : goal.invariant-loop-group
invariant-loop-group l =
    l.vars.items ≡ l.fn.vars.items ++ variables_in (map (λ g. g.now) (take l.group-index l.groups))
