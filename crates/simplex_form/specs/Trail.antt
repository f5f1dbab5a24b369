-- The trail: the bases that Bland's rule leads through, one pivot a step.
use Rattle.std.specs.Prelude.{◌≡◌, ℕ, zero, suc, ◌<◌, ◌≤◌, Bool, true, false, ◌&&◌, List, [], ◌∷◌, Option, Some, None, is_some, if◌then◌else◌}
use Rattle.simplex_form.specs.declared.turn.Phase.{Phase}
use Rattle.simplex_form.specs.declared.turn.Turn.{Turn}
use Rattle.simplex_form.specs.declared.turn.Turn.TheVariants.{Pivot, Stuck}
use Rattle.simplex_form.specs.Form.{Form}
use Rattle.simplex_form.specs.Basis.{BasisState, start}
use Rattle.simplex_form.specs.Board.{pivot}
use Rattle.simplex_form.specs.Readings.{readings}
use Rattle.simplex_form.specs.Turns.{turn}
use Rattle.simplex_form.specs.Fit.{start_fits, turn_fits}

-- the phase of a turn that is a pivot
abbrev pub pivot_phase : Turn → Option Phase
pivot_phase (Pivot phase r q) = Some phase
pivot_phase _ = None

-- whether the trail is at its end; where it is stuck it isn't
abbrev pub ends : Turn → Bool
ends (Pivot phase r q) = false
ends Stuck = false
ends _ = true

-- the basis after the turn's pivot, which is the same where it has none
abbrev pub after : Form → BasisState → Turn → BasisState
after F s (Pivot phase r q) = pivot F s phase r q
after F s _ = s

abbrev pub next : Form → BasisState → BasisState
next F s = after F s (turn F s)

-- the turn is a pivot that fits
abbrev pub goes_on : Form → BasisState → Bool
goes_on F s = is_some (pivot_phase (turn F s)) && turn_fits (readings F s) (turn F s)

-- a basis and its phase
abbrev pub stop : BasisState → Phase × List ℕ
stop s = (s.phase, s.basis)

-- the bases of n pivots from s on, each with its phase, or up to the first that has no next
abbrev pub trail_from : Form → ℕ → BasisState → List (Phase × List ℕ)
trail_from F zero s = stop s ∷ []
trail_from F (suc n) s = stop s ∷ (if goes_on F s then trail_from F n (next F s) else [])

-- the trail with an allowance of n pivots, which is at its first basis where the start doesn't fit
abbrev pub trail : Form → ℕ → List (Phase × List ℕ)
trail F n = if start_fits F then trail_from F n (start F) else stop (start F) ∷ []

-- the basis that n steps lead to
abbrev pub reached : Form → ℕ → BasisState
reached F zero = start F
reached F (suc n) = next F (reached F n)

-- the pivots from the a-th basis to the b-th are of one phase
abbrev pub IsWithinPhase : Form → Phase → ℕ → ℕ → Type 0
IsWithinPhase F phase a b =
    (k : ℕ) → a ≤ k → k < b → pivot_phase (turn F (reached F k)) ≡ Some phase
