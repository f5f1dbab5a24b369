use Rattle.std.proofs.Common.{◌≡◌, map, take}
use Rattle.user_model.specs.Deletion.{without_term}
use Rattle.model_plans.proofs.deletion.all_without.Given as goal

abbrev pub invariant-loop-f : goal.invariant-loop-f
invariant-loop-f l = l.left.items ≡ map (without_term l.at) (take l.f-index l.funcs)
