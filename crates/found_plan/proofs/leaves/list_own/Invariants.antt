use Rattle.std.proofs.Common.{◌≡◌, ◌++◌, drop}
use Rattle.found_plan.specs.Stood.{own_leaves}
use Rattle.found_plan.proofs.leaves.list_own.Given as goal

abbrev pub invariant-loop-var : goal.invariant-loop-var
invariant-loop-var l =
    l.list ++ own_leaves l.map (drop l.var-index l.vars)
    ≡ l.fn.list ++ own_leaves l.map l.vars
