use Rattle.std.proofs.Common.{◌≡◌, map, take}
use Rattle.aff_core.specs.Function.{negated}
use Rattle.bridges_flip.proofs.flips.negated_functions.Given as goal

abbrev pub invariant-loop-func : goal.invariant-loop-func
invariant-loop-func l = l.negations.items ≡ map negated (take l.func-index l.funcs)
