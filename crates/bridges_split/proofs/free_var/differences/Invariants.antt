use Rattle.std.proofs.Common.{◌≡◌, map}
use Rattle.std.specs.List.{range_with_len}
use Rattle.bridges_split.specs.FreeVarLaws.{halved}
use Rattle.bridges_split.proofs.free_var.differences.Given as goal

abbrev pub invariant-loop-n : goal.invariant-loop-n
invariant-loop-n l = l.exprs.items ≡ map (halved l.group l.count) (range_with_len 0 l.n)
