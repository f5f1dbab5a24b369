use Rattle.std.proofs.Common.{◌≡◌, map, take}
use Rattle.bridges_flip.specs.NonposVarLaws.{negative}
use Rattle.bridges_flip.proofs.nonpos_var.negatives.Given as goal

abbrev pub invariant-loop-var : goal.invariant-loop-var
invariant-loop-var l = l.exprs.items ≡ map negative (take l.var-index l.vars)
