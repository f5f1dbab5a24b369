use Rattle.std.proofs.Common.{◌≡◌, ◌+◌, ◌-◌, true}
use Rattle.ratio_core.specs.Rational.{neg_ℚ, one_ℚ, sum_fits}
use Rattle.simplex_form.specs.Search.{all_below}
use Rattle.tableau_core.specs.BoardContents.{readings_of}
use Rattle.simplex_core.proofs.rule.multipliers_fit.Given as goal

abbrev pub invariant-loop-j : goal.invariant-loop-j
invariant-loop-j g l =
    all_below (l.j - (g.T.Tableau.contents l.board).reals)
    (λ k. sum_fits one_ℚ (neg_ℚ ((readings_of (g.T.Tableau.contents l.board)).first_price
    ((g.T.Tableau.contents l.board).reals + k)))) ≡ true
