-- What an answer says of the form.
use Rattle.std.specs.Prelude.{◌≡◌, ℕ, length, Result, Ok, Err}
use Rattle.simplex_form.specs.declared.turn.Turn.{Turn}
use Rattle.simplex_form.specs.declared.turn.Turn.TheVariants as turn
use Rattle.simplex_form.specs.Form.{Form, IsFormInfeasible, IsFormOptimal, IsFormUnbounded, first_cost, second_cost}
use Rattle.simplex_form.specs.Basis.{BasisState}
use Rattle.simplex_form.specs.Board.{multiplier, point, ray}
use Rattle.simplex_form.specs.TrailOutcome.{TrailOutcome, ended, limited, outcome, overflowing}
use Rattle.tableau_core.specs.Row.{cell}
use Rattle.tableau_core.specs.Start.{IsListOf}
use Rattle.simplex_core.specs.declared.answer.SolverAnswer.{SolverAnswer}
use Rattle.simplex_core.specs.declared.answer.SolverAnswer.TheVariants.{Infeasible, Optimal, Unbounded}
use Rattle.simplex_core.specs.declared.fault.SolveFault.{SolveFault}
use Rattle.simplex_core.specs.declared.fault.SolveFault.TheVariants.{Limit, Memory, Overflow}

-- the answer is read off the basis, where this turn is due
abbrev pub IsReadOff : Form → BasisState → Turn → SolverAnswer → Type 0
IsReadOff F s t (Optimal x y basis) =
    (t ≡ turn.Optimal) × IsListOf F.reals (point F s) x
    × IsListOf F.rows (multiplier F s (second_cost F)) y × (basis ≡ s.basis)
IsReadOff F s t (Infeasible y basis) =
    (t ≡ turn.Infeasible) × IsListOf F.rows (multiplier F s (first_cost F)) y × (basis ≡ s.basis)
IsReadOff F s t (Unbounded x d basis) =
    (q : ℕ) × (t ≡ turn.Unbounded q) × IsListOf F.reals (point F s) x
    × IsListOf F.reals (ray F s q) d × (basis ≡ s.basis)

-- the result tells the outcome of a trail with an allowance of n steps; running out of memory tells
-- nothing
abbrev pub TellsOutcome : Form → ℕ → TrailOutcome → Result SolverAnswer SolveFault → Type 0
TellsOutcome F n o (Ok answer) = (s : BasisState) × (t : Turn) × (o ≡ ended s t) × IsReadOff F s t answer
TellsOutcome F n o (Err (Limit basis pivots)) =
    (s : BasisState) × (o ≡ limited s) × (basis ≡ s.basis) × (pivots ≡ n)
TellsOutcome F n o (Err (Overflow basis)) = (s : BasisState) × (o ≡ overflowing s) × (basis ≡ s.basis)
TellsOutcome F n o (Err Memory) = Unit {0}

abbrev pub SaysOutcome : Form → ℕ → Result SolverAnswer SolveFault → Type 0
SaysOutcome F n res = TellsOutcome F n (outcome F n) res

-- the answer is right, whatever basis it comes from
abbrev pub IsRightAnswer : Form → SolverAnswer → Type 0
IsRightAnswer F (Optimal x y basis) =
    (length x ≡ F.reals) × (length y ≡ F.rows) × IsFormOptimal F (cell x) (cell y)
IsRightAnswer F (Infeasible y basis) = (length y ≡ F.rows) × IsFormInfeasible F (cell y)
IsRightAnswer F (Unbounded x d basis) =
    (length x ≡ F.reals) × (length d ≡ F.reals) × IsFormUnbounded F (cell x) (cell d)
