use Rattle.std.proofs.Common.{◌≡◌, map, take}
use Rattle.user_model.specs.Model.{address_named}
use Rattle.model_plans.proofs.located.addresses.Given as goal

abbrev pub invariant-loop-var : goal.invariant-loop-var
invariant-loop-var l = l.located.items ≡ map (address_named l.model.model) (take l.var-index l.vars)
