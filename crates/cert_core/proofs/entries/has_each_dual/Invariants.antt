use Rattle.std.proofs.Common.{◌≡◌, ◌↔◌, All, drop}
use Rattle.certificates.specs.Duals.{rows_with}
use Rattle.cert_core.specs.Checked.{HasEachDual}
use Rattle.cert_core.proofs.entries.has_each_dual.Given as goal

-- all have theirs if those left do
abbrev pub invariant-loop-i : goal.invariant-loop-i
invariant-loop-i l =
    (All HasEachDual (drop l.i (rows_with l.duals l.rows.items)) ↔ All HasEachDual
    (rows_with l.duals l.rows.items))
    × (l.row-iterator ≡ drop l.i l.rows.items)
