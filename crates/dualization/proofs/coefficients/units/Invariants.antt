use Rattle.std.specs.Prelude.{◌≡◌, take}
use Rattle.aff_core.specs.FunctionLists.{coefficients}
use Rattle.certificates.specs.Points.{variables_at}
use Rattle.dualization.proofs.coefficients.units.Given as goal

abbrev pub invariant-loop-var : goal.invariant-loop-var
invariant-loop-var l = l.units.items ≡ coefficients (variables_at (take l.var-index l.vars)) l.at
