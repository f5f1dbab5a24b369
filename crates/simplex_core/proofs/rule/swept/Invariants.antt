use Rattle.std.proofs.Common.{◌≡◌, None}
use Rattle.simplex_form.specs.Search.{least_row}
use Rattle.simplex_form.specs.Turns.{swept_in}
use Rattle.tableau_core.specs.BoardContents.{readings_of}
use Rattle.simplex_core.proofs.rule.swept.Given as goal

abbrev pub invariant-loop-i : goal.invariant-loop-i
invariant-loop-i g l = least_row l.i (swept_in (readings_of (g.T.Tableau.contents l.board))) ≡ None
