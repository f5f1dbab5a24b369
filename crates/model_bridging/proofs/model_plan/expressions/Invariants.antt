use Rattle.std.proofs.Common.{◌≡◌, ◌++◌, flat_map, map}
use Rattle.user_model.specs.declared.group.Group.{Group}
use Rattle.model_bridging.specs.Whole.{with_function}
use Rattle.model_bridging.proofs.model_plan.expressions.Given as goal

abbrev pub invariant-loop-group : goal.invariant-loop-group
invariant-loop-group l =
    l.exprs.items ++ map (with_function l.standing) (flat_map (λ (g : Group). g.vars)
    l.group-iterator)
    ≡ map (with_function l.standing) (flat_map (λ (g : Group). g.vars) l.groups.items)
