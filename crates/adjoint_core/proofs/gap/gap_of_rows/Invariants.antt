use Rattle.std.proofs.Common.{◌≡◌, drop}
use Rattle.std.specs.Prelude.{map}
use Rattle.ratio_core.specs.Rational.{zero_ℚ}
use Rattle.certificates.specs.Duals.{rows_with}
use Rattle.adjoint_core.specs.Walk.{row_place}
use Rattle.adjoint_core.proofs.GapSteps.{GapSoFar}
use Rattle.adjoint_core.proofs.gap.gap_of_rows.Given as goal

abbrev pub invariant-loop-i : goal.invariant-loop-i
invariant-loop-i l =
    let hs = rows_with l.duals l.rows.items in
    GapSoFar zero_ℚ l.sum (map row_place l.rows.items) (map row_place l.row-iterator) hs
    (drop l.i hs)
    × (l.row-iterator ≡ drop l.i l.rows.items)
