use Rattle.std.proofs.Common.{◌+◌, ◌-◌}
use Rattle.ratio_core.specs.Rational.{neg_ℚ}
use Rattle.tableau_core.specs.Start.{IsListOf}
use Rattle.tableau_core.specs.BoardContents.{readings_of}
use Rattle.simplex_core.proofs.read_off.second_multipliers.Given as goal

abbrev pub invariant-loop-j : goal.invariant-loop-j
invariant-loop-j g l =
    IsListOf (l.j - (g.T.Tableau.contents l.board).reals)
    (λ k. neg_ℚ ((readings_of (g.T.Tableau.contents l.board)).second_price
    ((g.T.Tableau.contents l.board).reals + k))) l.y.items
