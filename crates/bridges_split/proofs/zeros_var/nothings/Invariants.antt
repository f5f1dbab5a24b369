use Rattle.std.proofs.Common.{◌≡◌, replicate}
use Rattle.bridges_split.specs.ZerosVarLaws.{none_of}
use Rattle.bridges_split.proofs.zeros_var.nothings.Given as goal

abbrev pub invariant-loop-n : goal.invariant-loop-n
invariant-loop-n l = l.exprs.items ≡ replicate l._n none_of
