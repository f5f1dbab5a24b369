use Rattle.std.proofs.Common.{◌≡◌, false}
use Rattle.simplex_form.specs.Search.{some_below}
use Rattle.simplex_form.specs.Turns.{is_above}
use Rattle.tableau_core.specs.BoardContents.{readings_of}
use Rattle.simplex_core.proofs.rule.is_left_above.Given as goal

abbrev pub invariant-loop-i : goal.invariant-loop-i
invariant-loop-i g l =
    some_below l.i (is_above (readings_of (g.T.Tableau.contents l.board))) ≡ false
