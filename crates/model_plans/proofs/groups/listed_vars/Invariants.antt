use Rattle.std.proofs.Common.{◌≡◌, take}
use Rattle.model_plans.specs.Plans.{listed_variables}
use Rattle.model_plans.proofs.groups.listed_vars.Given as goal

abbrev pub invariant-loop-var : goal.invariant-loop-var
invariant-loop-var l = l.names.items ≡ listed_variables (take l.var-index l.vars)
