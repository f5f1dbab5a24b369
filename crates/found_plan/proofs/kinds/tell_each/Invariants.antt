use Rattle.std.proofs.Common.{take}
use Rattle.found_plan.specs.Marked.{TellsMarks}
use Rattle.found_plan.proofs.kinds.tell_each.Given as goal

abbrev pub invariant-loop-var : goal.invariant-loop-var
invariant-loop-var l = TellsMarks l.map (take l.var-index l.vars) l.fn.kept l.kept
