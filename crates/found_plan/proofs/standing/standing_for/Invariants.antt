use Rattle.std.proofs.Common.{◌≡◌, ◌++◌, drop, map}
use Rattle.found_plan.specs.Read.{own_entries}
use Rattle.found_plan.proofs.standing.standing_for.Given as goal

abbrev pub invariant-loop-group : goal.invariant-loop-group
invariant-loop-group l =
    l.entries.items ++ own_entries l.standing (map (λ g. g.now) (drop l.group-index l.groups))
    ≡ own_entries l.standing (map (λ g. g.now) l.groups)
