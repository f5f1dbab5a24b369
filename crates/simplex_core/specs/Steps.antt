-- What is due at a board, and what is read off at the end.
use Rattle.std.specs.Prelude.{◌≡◌}
use Rattle.simplex_form.specs.declared.turn.Turn.{Turn}
use Rattle.simplex_form.specs.Form.{Form}
use Rattle.simplex_form.specs.Basis.{BasisState}
use Rattle.simplex_form.specs.Standing.{StandsAtBasis}
use Rattle.simplex_form.specs.Turns as bland
use Rattle.tableau_core.specs.BoardContents.{IsBoardOf, BoardContents}
use Rattle.simplex_core.specs.declared.answer.SolverAnswer.{SolverAnswer}
use Rattle.simplex_core.specs.Answer.{IsReadOff}

-- the board of the basis, where this turn is due
pub record IsDue (F : Form) (s : BasisState) (t : BoardContents) (turn : Turn) : Type 0 where
  pub stands : StandsAtBasis F s
  pub board : IsBoardOf F s t
  pub due : turn ≡ bland.turn F s

-- the answer is that of each form and basis where the turn is due
abbrev pub ReadsTurn : BoardContents → Turn → SolverAnswer → Type 0
ReadsTurn t turn answer = (F : Form) (s : BasisState) → IsDue F s t turn → IsReadOff F s turn answer
