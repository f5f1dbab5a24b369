use Rattle.std.proofs.Common.{length}
use Rattle.ratio_core.specs.Rational.{fits, ◌/ℚ◌}
use Rattle.tableau_core.specs.Row.{cell}
use Rattle.tableau_core.proofs.RowSteps.{IsMadeTo}
use Rattle.tableau_core.proofs.row.divide.Given as goal

abbrev pub invariant-loop-j : goal.invariant-loop-j
invariant-loop-j l =
    IsMadeTo (length l.row) l.j (λ k. fits (cell l.row k /ℚ l.by))
    (λ k. cell l.row k /ℚ l.by) l.next
