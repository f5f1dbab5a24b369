use Rattle.std.proofs.Common.{◌≡◌, map, take}
use Rattle.user_model.specs.Edited.{renamed}
use Rattle.model_plans.proofs.groups.renamed_vars.Given as goal

abbrev pub invariant-loop-var : goal.invariant-loop-var
invariant-loop-var l = l.copies.items ≡ map (renamed l.number l.new) (take l.var-index l.vars)
