use Rattle.std.proofs.Common.{drop}
use Rattle.bridges_norm.proofs.Loops.{LessAsAll}
use Rattle.bridges_norm.proofs.norm_one.left.Given as goal

abbrev pub invariant-loop-var : goal.invariant-loop-var
invariant-loop-var l = LessAsAll l.fn.first l.left (drop l.var-index l.vars) l.vars
