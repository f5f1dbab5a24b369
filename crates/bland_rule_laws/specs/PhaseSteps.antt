-- What a pivot of each phase does.
use Rattle.std.specs.Prelude.{◌≡◌, ℕ, ◌≤◌, Some, unwrap_or}
use Rattle.std.proofs.Common.{ap, subst}
use Rattle.std.proofs.lemmas.Option.{none-some}
use Rattle.simplex_form.specs.declared.turn.Phase.{Phase}
use Rattle.simplex_form.specs.declared.turn.Phase.TheVariants.{First, Second, Sweep}
use Rattle.simplex_form.specs.declared.turn.Turn.{Turn}
use Rattle.simplex_form.specs.declared.turn.Turn.TheVariants.{Infeasible, Optimal, Pivot, Stuck, Unbounded}
use Rattle.simplex_form.specs.Basis.{BasisState, basic}
use Rattle.simplex_form.specs.Board.{pivot}
use Rattle.simplex_form.specs.Form.{Form, first_cost, second_cost}
use Rattle.simplex_form.specs.Standing.{StandsAtBasis, TurnSays}
use Rattle.simplex_form.specs.Trail.{after, next, pivot_phase}
use Rattle.simplex_form.specs.Turns.{turn}
use Rattle.simplex_laws.specs.TurnLaws.{turn_says}
use Rattle.bland_rule_laws.specs.Steps.{IsStep, ReplacesBasic, pivot_moves, pivot_steps}

-- a real column takes the place of an artificial one
pub record IsSweepStep (F : Form) (s t : BasisState) : Type 0 where
  pub moves : ReplacesBasic F s t
  pub artificial : F.reals ≤ basic s moves.row

-- what a pivot of the phase does
abbrev pub Stepped : Form → Phase → BasisState → BasisState → Type 0
Stepped F First s t = IsStep F (first_cost F) s t
Stepped F Sweep s t = IsSweepStep F s t
Stepped F Second s t = IsStep F (second_cost F) s t

-- the phase of a pivot
pub same_phase : (p phase : Phase) → Some p ≡ Some phase → p ≡ phase
same_phase p phase e = ap (λ o. unwrap_or o p) e

module _ (F : Form) (s : BasisState) (h : StandsAtBasis F s) where
  sweep_pivot : (r q : ℕ) → TurnSays F s (Pivot Sweep r q) → IsSweepStep F s (pivot F s Sweep r q)
  unfolding pivot_moves
  sweep_pivot r q k = record {
    moves = pivot_moves F (first_cost F) s h Sweep r q k.1.row k.1.real;
    artificial = k.1.artificial;
  }

  by_turn : (phase : Phase) (t : Turn) → TurnSays F s t → pivot_phase t ≡ Some phase
      → Stepped F phase s (after F s t)
  by_turn phase (Pivot First r q) k e =
      subst (λ p. Stepped F p s (pivot F s First r q)) (same_phase First phase e)
      (pivot_steps F (first_cost F) s h First r q k.0 k.1)
  by_turn phase (Pivot Sweep r q) k e =
      subst (λ p. Stepped F p s (pivot F s Sweep r q)) (same_phase Sweep phase e)
      (sweep_pivot r q k)
  by_turn phase (Pivot Second r q) k e =
      subst (λ p. Stepped F p s (pivot F s Second r q)) (same_phase Second phase e)
      (pivot_steps F (second_cost F) s h Second r q k.2 k.3)
  by_turn phase Stuck k e = absurd (none-some phase e)
  by_turn phase Infeasible k e = absurd (none-some phase e)
  by_turn phase (Unbounded q) k e = absurd (none-some phase e)
  by_turn phase Optimal k e = absurd (none-some phase e)

  -- the next state is what the pivot leads to
  pub phase_step : (phase : Phase) → pivot_phase (turn F s) ≡ Some phase
      → Stepped F phase s (next F s)
  phase_step phase e = by_turn phase (turn F s) (turn_says F s h) e

-- whatever the phase, a real column takes a place
pub moves_of : (F : Form) (phase : Phase) (s t : BasisState) → Stepped F phase s t
    → ReplacesBasic F s t
moves_of F First s t h = h.moves
moves_of F Sweep s t h = h.moves
moves_of F Second s t h = h.moves
