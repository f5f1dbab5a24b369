use Rattle.std.proofs.Common.{◌≡◌, ◌++◌, drop}
use Rattle.model_bridging.specs.Whole.{kept_among}
use Rattle.model_bridging.proofs.model_plan.push_kept.Given as goal

abbrev pub invariant-loop-var : goal.invariant-loop-var
invariant-loop-var l =
    l.kept.items ++ kept_among l.standing (drop l.var-index l.vars)
    ≡ l.fn.kept.items ++ kept_among l.standing l.vars
