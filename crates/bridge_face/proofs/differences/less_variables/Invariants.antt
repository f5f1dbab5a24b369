use Rattle.std.proofs.Common.{◌≡◌, map, take}
use Rattle.std.specs.List.{zip}
use Rattle.bridge_face.specs.DifferenceLaws.{less}
use Rattle.bridge_face.proofs.differences.less_variables.Given as goal

abbrev pub invariant-loop-n : goal.invariant-loop-n
invariant-loop-n l = l.less.items ≡ map less (take l.n (zip l.funcs l.vars))
