use Rattle.std.specs.Prelude.{◌≡◌, take}
use Rattle.dualization.specs.ByName.{named_terms}
use Rattle.dualization.proofs.by_name.named_function.Given as goal

abbrev pub invariant-loop-i : goal.invariant-loop-i
invariant-loop-i l = l.terms ≡ named_terms l.names (take l.i l.coefficients)
