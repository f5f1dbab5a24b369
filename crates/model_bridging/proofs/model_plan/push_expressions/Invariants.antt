use Rattle.std.proofs.Common.{◌≡◌, ◌++◌, drop, map}
use Rattle.model_bridging.specs.Whole.{with_function}
use Rattle.model_bridging.proofs.model_plan.push_expressions.Given as goal

abbrev pub invariant-loop-var : goal.invariant-loop-var
invariant-loop-var l =
    l.exprs.items ++ map (with_function l.standing) (drop l.var-index l.vars)
    ≡ l.fn.exprs.items ++ map (with_function l.standing) l.vars
