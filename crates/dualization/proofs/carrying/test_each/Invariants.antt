use Rattle.std.specs.Prelude.{drop}
use Rattle.dualization.proofs.CarryLemmas.{TestedSoFar}
use Rattle.dualization.proofs.carrying.test_each.Given as goal

abbrev pub invariant-loop-var : goal.invariant-loop-var
invariant-loop-var l = TestedSoFar l.model.model l.duals l.vars (drop l.var-index l.vars)
