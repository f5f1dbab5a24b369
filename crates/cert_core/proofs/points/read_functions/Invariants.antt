use Rattle.aff_core.specs.Function.{evaluated}
use Rattle.cert_core.specs.Folds.{EvaluationFits}
use Rattle.cert_core.specs.Readings.{one_of}
use Rattle.cert_core.specs.Points.{numbers_in}
use Rattle.cert_core.proofs.Made.{MadeSoFar}
use Rattle.cert_core.proofs.points.read_functions.Given as goal

abbrev pub invariant-loop-f : goal.invariant-loop-f
invariant-loop-f l =
    MadeSoFar (λ f. EvaluationFits (one_of l.reading) f (numbers_in l.at))
    (λ f. evaluated (one_of l.reading) f (numbers_in l.at)) l.fs l.f-index l.read.items
