use Rattle.std.proofs.Common.{◌≡◌, map, take}
use Rattle.user_model.specs.Edited.{affine}
use Rattle.model_plans.proofs.located.affines.Given as goal

abbrev pub invariant-loop-func : goal.invariant-loop-func
invariant-loop-func l = l.located.items ≡ map (affine l.model.model) (take l.func-index l.funcs)
