-- How a trail with an allowance of steps comes out.
use Rattle.std.specs.Prelude.{◌≡◌, ℕ, ◌<◌, ◌≤◌, ◌⊎◌, zero, suc, true, false, if◌then◌else◌, length}
use Rattle.simplex_form.specs.declared.turn.Turn.{Turn}
use Rattle.simplex_form.specs.Form.{Form}
use Rattle.simplex_form.specs.Basis.{BasisState, start}
use Rattle.simplex_form.specs.Readings.{readings}
use Rattle.simplex_form.specs.Turns.{turn}
use Rattle.simplex_form.specs.Fit.{start_fits, turn_fits}
use Rattle.simplex_form.specs.Trail.{ends, next, reached, trail}

-- the start fits, and the trail has n pivots, and so n + 1 bases
pub record HasTrail (F : Form) (n : ℕ) : Type 0 where
  pub start_fits : start_fits F ≡ true
  pub long : length (trail F n) ≡ suc n

-- at its end, with the turn there; out of steps before the end; or before a step that doesn't fit
pub data TrailOutcome : Type 0 where
  ended : BasisState → Turn → TrailOutcome
  limited : BasisState → TrailOutcome
  overflowing : BasisState → TrailOutcome

abbrev pub unless_ended : Form → BasisState → TrailOutcome → TrailOutcome
unless_ended F s other = if ends (turn F s) then ended s (turn F s) else other

-- what each outcome says of a trail with an allowance of n steps
abbrev pub IsOutcome : Form → ℕ → TrailOutcome → Type 0
IsOutcome F n (ended s t) =
    (k : ℕ) × (k ≤ n) × HasTrail F k × (s ≡ reached F k) × (t ≡ turn F s) × (ends t ≡ true)
IsOutcome F n (limited s) = HasTrail F n × (s ≡ reached F n) × (ends (turn F s) ≡ false)
IsOutcome F n (overflowing s) =
    ((start_fits F ≡ false) × (s ≡ start F))
    ⊎ ((k : ℕ) × (k < n) × HasTrail F k × (s ≡ reached F k)
    × (ends (turn F s) ≡ false) × (turn_fits (readings F s) (turn F s) ≡ false))

-- from the basis on, with n steps more
abbrev pub outcome_from : Form → ℕ → BasisState → TrailOutcome
outcome_from F zero s = unless_ended F s (limited s)
outcome_from F (suc n) s =
    unless_ended F s
    (if turn_fits (readings F s) (turn F s) then outcome_from F n (next F s) else overflowing s)

-- the outcome with an allowance of n steps
abbrev pub outcome : Form → ℕ → TrailOutcome
outcome F n = if start_fits F then outcome_from F n (start F) else overflowing (start F)
