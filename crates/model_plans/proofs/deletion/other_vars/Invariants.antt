use Rattle.std.proofs.Common.{◌≡◌, ◌==◌, take}
use Rattle.std.specs.Prelude.{filter, not}
use Rattle.model_plans.proofs.deletion.other_vars.Given as goal

abbrev pub invariant-loop-var : goal.invariant-loop-var
invariant-loop-var l =
    l.left.items ≡ filter (λ v. not (v.number == l.number)) (take l.var-index l.vars)
