use Rattle.std.specs.Prelude.{◌≡◌, drop, length, map}
use Rattle.adjoint_core.specs.Read.{duals_by}
use Rattle.adjoint_core.specs.Walk.{RowDualFits, row_dual, row_place}
use Rattle.adjoint_core.proofs.InOrder.{MadeInOrder}
use Rattle.adjoint_core.proofs.rows.row_duals.Given as goal

abbrev pub invariant-loop-row : goal.invariant-loop-row
invariant-loop-row g l =
    let states = map g.B.Bridge.state l.bridges in
    let leaf = duals_by l.places l.y in
    MadeInOrder (RowDualFits states leaf) row_place (row_dual states leaf) l.rows.items
    (length l.duals.items) l.duals.items
    × (l.row-iterator ≡ drop (length l.duals.items) l.rows.items)
