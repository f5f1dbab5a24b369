use Rattle.aff_core.specs.Address.{address_cmp}
use Rattle.aff_core.specs.Function.{evaluated, variable}
use Rattle.cert_core.specs.Folds.{EvaluationFits}
use Rattle.cert_core.specs.Readings.{one_of}
use Rattle.cert_core.specs.Points.{numbers_in}
use Rattle.cert_core.proofs.Made.{MadeSoFar}
use Rattle.cert_core.proofs.points.read_variables.Given as goal

abbrev pub invariant-loop-var : goal.invariant-loop-var
invariant-loop-var l =
    MadeSoFar (λ v. EvaluationFits (one_of l.reading) (variable {R = address_cmp} v)
    (numbers_in l.at))
    (λ v. evaluated (one_of l.reading) (variable {R = address_cmp} v) (numbers_in l.at))
    l.vars l.var-index l.read.items
