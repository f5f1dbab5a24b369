use Rattle.std.proofs.Common.{◌≡◌, ◌++◌, drop}
use Rattle.found_plan.specs.Read.{read_entries}
use Rattle.found_plan.proofs.standing.read_each.Given as goal

abbrev pub invariant-loop-var : goal.invariant-loop-var
invariant-loop-var l =
    l.entries.items ++ read_entries l.map (drop l.var-index l.vars)
    ≡ l.fn.entries.items ++ read_entries l.map l.vars
