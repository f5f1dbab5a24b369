use Rattle.user_model.specs.Model.{variables}
use Rattle.certificates.specs.Points.{variables_of}
use Rattle.dualization.proofs.CarryLemmas.{TestedSoFar}
use Rattle.dualization.proofs.carrying.test_groups.Given as goal

abbrev pub invariant-loop-group : goal.invariant-loop-group
invariant-loop-group l =
    TestedSoFar l.model.model l.duals (variables l.model.model) (variables_of l.group-iterator)
