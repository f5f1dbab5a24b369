use Rattle.std.specs.Prelude.{◌≡◌, take}
use Rattle.aff_core.specs.FunctionLists.{coefficients}
use Rattle.dualization.proofs.coefficients.coefficients_of.Given as goal

abbrev pub invariant-loop-f : goal.invariant-loop-f
invariant-loop-f l = l.own.items ≡ coefficients (take l.f-index l.fs) l.at
