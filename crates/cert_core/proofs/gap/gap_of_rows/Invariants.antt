use Rattle.std.proofs.Common.{◌≡◌, drop}
use Rattle.ratio_core.specs.Rational.{zero_ℚ}
use Rattle.certificates.specs.Duals.{rows_with}
use Rattle.cert_core.specs.Folds.{gap_parts}
use Rattle.cert_core.proofs.Summed.{SummedAsAll}
use Rattle.cert_core.proofs.gap.gap_of_rows.Given as goal

abbrev pub invariant-loop-i : goal.invariant-loop-i
invariant-loop-i l =
    SummedAsAll zero_ℚ l.sum (gap_parts (rows_with l.duals l.rows.items))
    (gap_parts (drop l.i (rows_with l.duals l.rows.items)))
    × (l.row-iterator ≡ drop l.i l.rows.items)
