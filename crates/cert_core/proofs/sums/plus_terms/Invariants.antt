use Rattle.std.proofs.Common.{drop}
use Rattle.cert_core.specs.Folds.{products_at}
use Rattle.cert_core.specs.Points.{numbers_in}
use Rattle.cert_core.proofs.Summed.{SummedAsAll}
use Rattle.cert_core.proofs.sums.plus_terms.Given as goal

abbrev pub invariant-loop-address : goal.invariant-loop-address
invariant-loop-address l =
    SummedAsAll l.start l.sum (products_at l.terms (numbers_in l.at))
    (products_at (drop l.address-index l.terms) (numbers_in l.at))
