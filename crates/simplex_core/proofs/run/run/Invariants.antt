use Rattle.simplex_form.specs.Basis.{start}
use Rattle.simplex_form.specs.Form.{Form, IsStandard}
use Rattle.tableau_core.specs.BoardContents.{IsBoardOf}
use Rattle.simplex_core.specs.Phases.{IsInPhase}
use Rattle.simplex_core.proofs.Running.{IsAtStep}
use Rattle.simplex_core.proofs.run.run.Given as goal

abbrev pub invariant-steps : goal.invariant-steps
invariant-steps g l = record {
  phase : IsInPhase l.phase (g.T.Tableau.contents l.board);
  steps : (F : Form) → IsStandard F → IsBoardOf F (start F) (g.T.Tableau.contents l.fn.board)
      → IsAtStep F l.pivots l.left l.phase (g.T.Tableau.contents l.board);
}

abbrev pub decreases-steps : goal.decreases-steps
decreases-steps g l = l.left
