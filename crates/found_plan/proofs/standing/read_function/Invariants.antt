use Rattle.std.proofs.Common.{◌≡◌, ◌++◌, drop, map}
use Rattle.found_plan.specs.Read.{read_entries}
use Rattle.found_plan.proofs.standing.read_function.Given as goal

abbrev pub invariant-loop-var : goal.invariant-loop-var
invariant-loop-var l =
    l.entries.items ++ read_entries l.map (map (λ t. t.0) (drop l.var-index l.var-items))
    ≡ l.fn.entries.items ++ read_entries l.map (map (λ t. t.0) l.var-items)
