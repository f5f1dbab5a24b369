use Rattle.ratio_core.specs.Rational.{zero_ℚ}
use Rattle.rational_laws.specs.Dot.{dot}
use Rattle.set_map.specs.Fitting.{DotFits}
use Rattle.set_map.proofs.Made.{MadeSoFar}
use Rattle.set_map.proofs.numbers.applied.Given as goal

abbrev pub invariant-loop-row : goal.invariant-loop-row
invariant-loop-row l =
    MadeSoFar (λ row. DotFits zero_ℚ row l.numbers) (λ row. dot row l.numbers) l.rows l.row-index
    l.products.items
