use Rattle.std_form.proofs.ReadTo.{AreReadTo}
use Rattle.std_form.proofs.reading.values.Given as goal

abbrev pub invariant-loop-i : goal.invariant-loop-i
invariant-loop-i l = AreReadTo l.variables l.x l.i-index l.left l.values.items
