-- The answer at the end of the trail.
use Rattle.std.specs.Prelude.{◌≡◌, ℕ, ◌⊎◌, true, false, Option, Some, None, Result, Ok, Err}
use Rattle.simplex_core.specs.declared.answer.SolverAnswer.{SolverAnswer}
use Rattle.simplex_core.specs.declared.fault.SolveFault.{SolveFault}
use Rattle.simplex_core.specs.declared.fault.SolveFault.TheVariants as solve
use Rattle.simplex_core.specs.Answer.{IsReadOff}
use Rattle.simplex_form.specs.declared.turn.Turn.{Turn}
use Rattle.simplex_form.specs.Basis.{BasisState, start}
use Rattle.simplex_form.specs.Fit.{start_fits, turn_fits}
use Rattle.simplex_form.specs.Form.{Form}
use Rattle.simplex_form.specs.TrailOutcome.{HasTrail, TrailOutcome, ended, overflowing}
use Rattle.simplex_form.specs.Readings.{readings}
use Rattle.simplex_form.specs.Trail.{ends, reached}
use Rattle.simplex_form.specs.Turns.{turn}
use Rattle.bland_run.specs.declared.fault.SmallFault.{SmallFault}
use Rattle.bland_run.specs.declared.fault.SmallFault.TheVariants.{Memory, Overflow}

-- the trail has n pivots and is then at its end, where the answer is read off
abbrev pub IsReadOffAfter : Form → ℕ → SolverAnswer → Type 0
IsReadOffAfter F n answer = HasTrail F n × (ends (turn F (reached F n)) ≡ true)
    × IsReadOff F (reached F n) (turn F (reached F n)) answer

-- the trail has n pivots and isn't at its end, and its next step doesn't fit
abbrev pub StopsAfter : Form → ℕ → Type 0
StopsAfter F n = HasTrail F n × (ends (turn F (reached F n)) ≡ false)
    × (turn_fits (readings F (reached F n)) (turn F (reached F n)) ≡ false)

-- the answer at the end of the trail; or the basis where the start or the next step doesn't fit; want
-- of memory tells nothing
abbrev pub EndsTrail : Form → Result SolverAnswer SmallFault → Type 0
EndsTrail F (Ok answer) = (n : ℕ) × IsReadOffAfter F n answer
EndsTrail F (Err (Overflow basis)) =
    ((start_fits F ≡ false) × (basis ≡ (start F).basis))
    ⊎ ((n : ℕ) × StopsAfter F n × (basis ≡ (reached F n).basis))
EndsTrail F (Err Memory) = Unit {0}

-- the result tells the outcome of a trail with an allowance, which it never runs out of
abbrev pub TellsSmall : Form → TrailOutcome → Result SolverAnswer SmallFault → Type 0
TellsSmall F o (Ok answer) = (s : BasisState) × (t : Turn) × (o ≡ ended s t) × IsReadOff F s t answer
TellsSmall F o (Err (Overflow basis)) = (s : BasisState) × (o ≡ overflowing s) × (basis ≡ s.basis)
TellsSmall F o (Err Memory) = Unit {0}

-- what a fault is with an allowance that doesn't run out
abbrev pub small_fault_of : SolveFault → Option SmallFault
small_fault_of (solve.Limit basis pivots) = None
small_fault_of (solve.Overflow basis) = Some (Overflow basis)
small_fault_of solve.Memory = Some Memory
