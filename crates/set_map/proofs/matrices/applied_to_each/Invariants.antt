use Rattle.set_map.specs.Fitting.{AppliedFits}
use Rattle.set_map.specs.Matrices.{applied}
use Rattle.set_map.proofs.Made.{MadeSoFar}
use Rattle.set_map.proofs.matrices.applied_to_each.Given as goal

abbrev pub invariant-loop-row : goal.invariant-loop-row
invariant-loop-row l =
    MadeSoFar (AppliedFits l.columns) (applied l.columns) l.rows l.row-index l.entries.items
