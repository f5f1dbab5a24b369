use Rattle.std.proofs.Common.{◌≡◌, ◌++◌, drop, map}
use Rattle.fresh_bridging.specs.Entries.{function_in}
use Rattle.bridge_plan.proofs.standing.Standing.functions.Given as goal

abbrev pub invariant-loop-var : goal.invariant-loop-var
invariant-loop-var l =
    l.funcs.items ++ map (function_in l.self) (drop l.var-index l.vars)
    ≡ map (function_in l.self) l.vars
