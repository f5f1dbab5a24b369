use Rattle.std.specs.Prelude.{◌≤◌, length}
use Rattle.ratio_core.specs.Rational.{zero_ℚ}
use Rattle.aff_core.specs.Function.{coefficient}
use Rattle.certificates.specs.Duals.{reduced_cost, rows_with}
use Rattle.certificates.specs.Points.{objective_function, sense_of}
use Rattle.cert_core.specs.Folds.{AddUp, CostFits, adjoint_parts}
use Rattle.dual_laws.specs.Held.{adjoint}
use Rattle.adjoint_core.proofs.InOrder.{MadeInOrder}
use Rattle.adjoint_core.proofs.costs.reduced_costs.Given as goal

abbrev pub invariant-loop-i : goal.invariant-loop-i
invariant-loop-i l =
    let hs = rows_with l.duals l.rows.items in
    let sense = sense_of l.objective in
    let cost = coefficient (objective_function l.objective) in
    MadeInOrder
    (λ v. AddUp zero_ℚ (adjoint_parts hs v) × CostFits sense (cost v) (adjoint hs v)) (λ v. v)
    (λ v. reduced_cost sense (cost v) (adjoint hs v)) l.users l.i l.costs.items
    × (l.i ≤ length l.sums.items)
