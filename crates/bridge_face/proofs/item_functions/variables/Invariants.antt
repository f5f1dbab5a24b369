use Rattle.std.proofs.Common.{◌≡◌, map, take}
use Rattle.aff_core.specs.Function.{variable}
use Rattle.bridge_face.proofs.item_functions.variables.Given as goal

abbrev pub invariant-loop-var : goal.invariant-loop-var
invariant-loop-var l = l.funcs.items ≡ map variable (take l.var-index l.vars)
