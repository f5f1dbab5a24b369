use Rattle.std.specs.Prelude.{◌-◌, map}
use Rattle.adjoint_core.specs.Read.{duals_by}
use Rattle.adjoint_core.specs.Walk.{DualBelowFits, dual_at, places_of}
use Rattle.adjoint_core.proofs.InOrder.{MadeInOrder}
use Rattle.adjoint_core.proofs.rows.+dual_below.Given as goal

abbrev pub decreases-dual_below : goal.decreases-dual_below
decreases-dual_below g l = l.levels

abbrev pub invariant-loop-n : goal.invariant-loop-n
invariant-loop-n g l =
    let states = map g.B.Bridge.state l.bridges in
    let leaf = duals_by l.places l.y in
    MadeInOrder (DualBelowFits states leaf (l.levels - 1)) (λ v. v) (dual_at states leaf (l.levels - 1))
    (places_of l.at l.keeper.rows) l.n l.duals.items
