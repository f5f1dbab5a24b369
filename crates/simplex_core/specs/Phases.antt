-- Boards in a phase, and turns within a board.
use Rattle.std.specs.Prelude.{◌≡◌, ◌<◌, true, IsTrue, length}
use Rattle.ratio_core.specs.Rational.{zero_ℚ}
use Rattle.simplex_form.specs.declared.turn.Phase.{Phase}
use Rattle.simplex_form.specs.declared.turn.Turn.{Turn}
use Rattle.simplex_form.specs.declared.turn.Turn.TheVariants.{Infeasible, Pivot, Unbounded}
use Rattle.simplex_form.specs.Fit.{uses_first}
use Rattle.simplex_form.specs.Turns.{multipliers_fit}
use Rattle.tableau_core.specs.BoardContents.{BoardContents, readings_of}

-- the first cost row is in use in the first phase alone
abbrev pub IsInPhase : Phase → BoardContents → Type 0
IsInPhase phase t = t.in_first ≡ uses_first phase

-- the board with the first cost row in use as the phase has it
abbrev pub in_phase : Phase → BoardContents → BoardContents
in_phase phase t = record t { in_first = uses_first phase }

-- what the turn does lies within the board: a pivot is on an entry that isn't 0, an unbounded
-- column is a real one, and the multipliers that show infeasibility fit
abbrev pub IsTurnWithin : BoardContents → Turn → Type 0
IsTurnWithin t (Pivot phase row column) =
    (IsTrue (uses_first phase) → IsTrue t.in_first)
    × (row < length t.rows) × (column < t.reals) × ¬ ((readings_of t).entry column row ≡ zero_ℚ)
IsTurnWithin t Infeasible = IsTrue t.in_first × (multipliers_fit (readings_of t) ≡ true)
IsTurnWithin t (Unbounded column) = column < t.reals
IsTurnWithin t _ = Unit {0}
