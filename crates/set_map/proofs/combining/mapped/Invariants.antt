use Rattle.ratio_core.specs.Rational.{zero_ℚ}
use Rattle.aff_core.specs.Function.{constant_function}
use Rattle.set_map.specs.Combinations.{combined}
use Rattle.set_map.specs.Fitting.{CombinationFits}
use Rattle.set_map.proofs.Made.{MadeSoFar}
use Rattle.set_map.proofs.combining.mapped.Given as goal

abbrev pub invariant-loop-row : goal.invariant-loop-row
invariant-loop-row l =
    MadeSoFar (λ row. CombinationFits (constant_function zero_ℚ) row l.fs) (λ row. combined row l.fs)
    l.rows l.row-index l.combinations.items
