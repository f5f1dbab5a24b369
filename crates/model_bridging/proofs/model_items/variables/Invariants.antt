use Rattle.std.proofs.Common.{◌≡◌, map, take}
use Rattle.user_model.specs.Model.{variable_address}
use Rattle.user_model.specs.declared.group.GroupVar.{GroupVar}
use Rattle.model_bridging.proofs.model_items.variables.Given as goal

abbrev pub invariant-loop-var : goal.invariant-loop-var
invariant-loop-var l =
    l.addresses.items
    ≡ map (λ (v : GroupVar). variable_address v.number) (take l.var-index l.vars)
