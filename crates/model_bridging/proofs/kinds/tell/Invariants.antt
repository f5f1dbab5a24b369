use Rattle.std.proofs.Common.{drop, map}
use Rattle.user_model.specs.Model.{variable_address}
use Rattle.user_model.specs.declared.group.GroupVar.{GroupVar}
use Rattle.model_bridging.proofs.Telling.{IsToldSoFar}
use Rattle.model_bridging.proofs.kinds.tell.Given as goal

abbrev pub invariant-loop-var : goal.invariant-loop-var
invariant-loop-var l =
    let at = λ (x : GroupVar). variable_address x.number in
    IsToldSoFar l.keeps (map at l.vars) (map at (drop l.var-index l.vars)) l.fn.kept l.kept
