use Rattle.std.specs.Prelude.{◌≡◌, take}
use Rattle.aff_core.specs.FunctionLists.{constants}
use Rattle.dualization.proofs.coefficients.constants_of.Given as goal

abbrev pub invariant-loop-f : goal.invariant-loop-f
invariant-loop-f l = l.own.items ≡ constants (take l.f-index l.fs)
