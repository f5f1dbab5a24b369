use Rattle.std.proofs.Common.{◌≡◌, ◌++◌, drop, map}
use Rattle.found_plan.specs.Read.{own_entry}
use Rattle.found_plan.proofs.standing.push_own.Given as goal

abbrev pub invariant-loop-var : goal.invariant-loop-var
invariant-loop-var l =
    l.entries.items ++ map (own_entry l.standing) (drop l.var-index l.vars)
    ≡ l.fn.entries.items ++ map (own_entry l.standing) l.vars
