use Rattle.std.proofs.Common.{◌≡◌, drop}
use Rattle.set_core.specs.Membership.{Dual, DualFits}
use Rattle.certificates.specs.Duals.{rows_with}
use Rattle.cert_core.proofs.Tested.{TestedAsAll}
use Rattle.cert_core.proofs.duals.row_duals_hold.Given as goal

abbrev pub invariant-loop-i : goal.invariant-loop-i
invariant-loop-i l =
    TestedAsAll (λ h. DualFits h.set h.duals) (λ h. Dual h.set h.duals) l.all
    (rows_with l.duals l.rows.items) (drop l.i (rows_with l.duals l.rows.items))
    × (l.row-iterator ≡ drop l.i l.rows.items)
