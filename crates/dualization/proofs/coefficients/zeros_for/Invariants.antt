use Rattle.std.specs.Prelude.{◌≡◌, take}
use Rattle.aff_core.specs.FunctionLists.{constants}
use Rattle.certificates.specs.Points.{variables_at}
use Rattle.dualization.proofs.coefficients.zeros_for.Given as goal

abbrev pub invariant-loop-var : goal.invariant-loop-var
invariant-loop-var l = l.zeros.items ≡ constants (variables_at (take l._var-index l.vars))
