use Rattle.certificates.specs.Points.{functions_of}
use Rattle.cert_core.specs.Folds.{FitIn}
use Rattle.cert_core.specs.Holding.{FunctionsHold}
use Rattle.cert_core.specs.Readings.{one_of}
use Rattle.cert_core.specs.Points.{numbers_in}
use Rattle.cert_core.proofs.Tested.{TestedAsAll}
use Rattle.cert_core.proofs.points.rows_hold.Given as goal

abbrev pub invariant-loop-row : goal.invariant-loop-row
invariant-loop-row l =
    TestedAsAll (λ r. FitIn (one_of l.reading) r.set (functions_of r.func) (numbers_in l.at))
    (λ r. FunctionsHold (one_of l.reading) r.set (functions_of r.func) (numbers_in l.at))
    l.all l.rows.items l.row-iterator
