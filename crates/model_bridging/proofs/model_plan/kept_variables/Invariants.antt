use Rattle.std.proofs.Common.{◌≡◌, ◌++◌, flat_map}
use Rattle.user_model.specs.declared.group.Group.{Group}
use Rattle.model_bridging.specs.Whole.{kept_among}
use Rattle.model_bridging.proofs.model_plan.kept_variables.Given as goal

abbrev pub invariant-loop-group : goal.invariant-loop-group
invariant-loop-group l =
    l.kept.items ++ kept_among l.standing (flat_map (λ (g : Group). g.vars) l.group-iterator)
    ≡ kept_among l.standing (flat_map (λ (g : Group). g.vars) l.groups.items)
