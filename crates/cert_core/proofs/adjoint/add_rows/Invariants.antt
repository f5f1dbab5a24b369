use Rattle.std.proofs.Common.{◌≡◌, drop}
use Rattle.certificates.specs.Duals.{rows_with}
use Rattle.cert_core.specs.Folds.{adjoint_parts}
use Rattle.cert_core.proofs.Adding.{AddsAsAll}
use Rattle.cert_core.proofs.adjoint.add_rows.Given as goal

abbrev pub invariant-loop-i : goal.invariant-loop-i
invariant-loop-i l =
    AddsAsAll l.variables l.fn.sums l.sums (adjoint_parts (rows_with l.duals l.rows.items))
    (adjoint_parts (drop l.i (rows_with l.duals l.rows.items)))
    × (l.row-iterator ≡ drop l.i l.rows.items)
