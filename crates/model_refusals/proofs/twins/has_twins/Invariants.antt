use Rattle.model_refusals.proofs.SeenNames.{AreNewBelow}
use Rattle.model_refusals.proofs.twins.has_twins.Given as goal

abbrev pub invariant-loop-part : goal.invariant-loop-part
invariant-loop-part l = AreNewBelow l.names l.parts l.part
