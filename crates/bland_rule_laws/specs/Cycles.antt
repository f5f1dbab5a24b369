-- Bland's rule never repeats: the statement, and the bound that follows from it.
use Rattle.std.specs.Prelude.{◌≡◌, ℕ, ◌+◌, ◌<◌, ◌≤◌, ◌^◌, ◌⊎◌}
use Rattle.std.specs.List.{Contains}
use Rattle.simplex_form.specs.declared.turn.Phase.{Phase}
use Rattle.simplex_form.specs.Basis.{BasisState}
use Rattle.simplex_form.specs.Form.{Form}
use Rattle.simplex_form.specs.TrailOutcome.{HasTrail, limited, outcome}
use Rattle.simplex_form.specs.Trail.{IsWithinPhase, reached}

-- some column is basic at one of the two and not at the other
abbrev pub DifferInAColumn : BasisState → BasisState → Type 0
DifferInAColumn s t = (j : ℕ)
    × ((Contains s.basis j × ¬ (Contains t.basis j)) ⊎ (¬ (Contains s.basis j) × Contains t.basis j))

-- within a phase no set of basic columns comes twice: of two places of the trail between which all
-- pivots are of one phase, some column is basic at one and not at the other
abbrev pub NeverRepeats : Form → Type 0
NeverRepeats F = (phase : Phase) (a b : ℕ) → a < b → IsWithinPhase F phase a b
    → DifferInAColumn (reached F a) (reached F b)

-- each set of columns once in the first phase and once in the second, and a pivot of the sweep for
-- each row
abbrev pub most_steps : Form → ℕ
most_steps F = 2 ^ (F.reals + F.rows + 1) + F.rows

-- a trail has fewer pivots than that
abbrev pub IsTrailBounded : Form → Type 0
IsTrailBounded F = (n : ℕ) → HasTrail F n → n < most_steps F

-- with an allowance of as many pivots no trail is cut off before its end
abbrev pub IsUnlimited : Form → Type 0
IsUnlimited F = (n : ℕ) (s : BasisState) → most_steps F ≤ n → ¬ (outcome F n ≡ limited s)
