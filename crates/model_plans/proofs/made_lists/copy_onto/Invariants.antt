use Rattle.std.proofs.Common.{◌≡◌, ◌++◌, take}
use Rattle.model_plans.proofs.made_lists.copy_onto.Given as goal

abbrev pub invariant-loop-func : goal.invariant-loop-func
invariant-loop-func l = l.copies.items ≡ l.initial.copies.items ++ take l.func-index l.funcs
