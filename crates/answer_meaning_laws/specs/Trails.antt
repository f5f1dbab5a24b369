-- What an answer of the simplex says of the trail, the list of the bases that Bland's rule leads
-- through.
--     IsAlongTrail F n result      what a result says of the trails of a form
--     AnswersEndTrails             the law
use Rattle.std.specs.Prelude.{◌≡◌, ◌⊎◌, ℕ, suc, ◌<◌, ◌≤◌, true, false, List, length, Some, Result, Ok, Err, slice_get}
use Rattle.std.proofs.Common.{ap, arith, inl, inr, sym, subst, ◌∙◌}
use Rattle.simplex_core.specs.Answer.{IsReadOff, SaysOutcome}
use Rattle.simplex_core.specs.declared.answer.SolverAnswer.{SolverAnswer}
use Rattle.simplex_core.specs.declared.answer.SolverAnswer.TheVariants.{Infeasible, Optimal, Unbounded}
use Rattle.simplex_core.specs.declared.fault.SolveFault.{SolveFault}
use Rattle.simplex_core.specs.declared.fault.SolveFault.TheVariants.{Limit, Memory, Overflow}
use Rattle.simplex_form.specs.Basis.{BasisState, start}
use Rattle.simplex_form.specs.Fit.{start_fits, turn_fits}
use Rattle.simplex_form.specs.Form.{Form}
use Rattle.simplex_form.specs.TrailOutcome.{HasTrail, IsOutcome, ended, limited, overflowing}
use Rattle.simplex_form.specs.Readings.{readings}
use Rattle.simplex_form.specs.Trail.{ends, reached, trail}
use Rattle.simplex_form.specs.Turns.{turn}
use Rattle.simplex_form.specs.declared.turn.Phase.{Phase}
use Rattle.simplex_form.specs.declared.turn.Turn.{Turn}
use Rattle.simplex_laws.specs.OutcomeLaws.{outcome_is}
use Rattle.simplex_laws.specs.TrailLaws.{trail-reached}

abbrev pub basis_of : SolverAnswer → List ℕ
basis_of (Optimal x y basis) = basis
basis_of (Infeasible y basis) = basis
basis_of (Unbounded x d basis) = basis

-- the trail with an allowance of k pivots has k + 1 bases, and this is the last of them
pub record IsLastBasis (F : Form) (k : ℕ) (basis : List ℕ) : Type 0 where
  pub phase : Phase
  pub long : length (trail F k) ≡ suc k
  pub last : slice_get (trail F k) k ≡ Some (phase, basis)

-- the trail ends after k pivots, at a basis where nothing is to be done
pub record IsEndAfter (F : Form) (k : ℕ) (basis : List ℕ) : Type 0 where
  pub last : IsLastBasis F k basis
  pub ends : ends (turn F (reached F k)) ≡ true

-- the trail goes on after k pivots
pub record GoesOnAfter (F : Form) (k : ℕ) (basis : List ℕ) : Type 0 where
  pub last : IsLastBasis F k basis
  pub goes_on : ends (turn F (reached F k)) ≡ false

-- an answer is read off where the trail ends; without one the pivots are used up, or the first
-- board or the next step exceeds 128 bits
abbrev pub IsAlongTrail : Form → ℕ → Result SolverAnswer SolveFault → Type 0
IsAlongTrail F n (Ok answer) = (k : ℕ) × (k ≤ n) × IsEndAfter F k (basis_of answer)
IsAlongTrail F n (Err (Limit basis pivots)) = (pivots ≡ n) × GoesOnAfter F n basis
IsAlongTrail F n (Err (Overflow basis)) =
    ((start_fits F ≡ false) × (basis ≡ (start F).basis))
    ⊎ ((k : ℕ) × (k < n) × GoesOnAfter F k basis
    × (turn_fits (readings F (reached F k)) (turn F (reached F k)) ≡ false))
IsAlongTrail F n (Err Memory) = Unit {0}

-- of each result that tells the outcome, as one of `solve` does
abbrev pub AnswersEndTrails : Type 0
AnswersEndTrails =
    (F : Form) (n : ℕ) (result : Result SolverAnswer SolveFault) → SaysOutcome F n result
    → IsAlongTrail F n result

module _ (F : Form) (n : ℕ) where
  last_of : (k : ℕ) (s : BasisState) (basis : List ℕ) → HasTrail F k → s ≡ reached F k
      → basis ≡ s.basis → IsLastBasis F k basis
  last_of k s basis has is same = record {
    phase = (reached F k).phase;
    long = has.long;
    last = trail-reached F k k has (omega arith)
        ∙ ap (λ b. Some ((reached F k).phase, b))
        (sym (same ∙ ap (λ (r : BasisState). r.basis) is));
  }

  read_basis : (s : BasisState) (t : Turn) (answer : SolverAnswer) → IsReadOff F s t answer
      → basis_of answer ≡ s.basis
  read_basis s t (Optimal x y basis) h = h.3
  read_basis s t (Infeasible y basis) h = h.2
  read_basis s t (Unbounded x d basis) h = h.4

  pub along_trail : (result : Result SolverAnswer SolveFault) → SaysOutcome F n result
      → IsAlongTrail F n result
  along_trail (Ok answer) (s, t, is, read) =
      let o : IsOutcome F n (ended s t) = subst (IsOutcome F n) is (outcome_is F n) in (
        o.0,
        o.1,
        record {
          last = last_of o.0 s (basis_of answer) o.2 o.3 (read_basis s t answer read);
          ends = subst (λ r. ends (turn F r) ≡ true) o.3 (ap ends (sym o.4) ∙ o.5);
        },
      )
  along_trail (Err (Limit basis pivots)) (s, is, same, all) =
      let o : IsOutcome F n (limited s) = subst (IsOutcome F n) is (outcome_is F n) in (
        all,
        record {
          last = last_of n s basis o.0 o.1 same;
          goes_on = subst (λ r. ends (turn F r) ≡ false) o.1 o.2;
        },
      )
  along_trail (Err (Overflow basis)) (s, is, same) =
      by (subst (IsOutcome F n) is (outcome_is F n))
    where
      by : IsOutcome F n (overflowing s) → IsAlongTrail F n (Err (Overflow basis))
      by (inl (unfit, first)) = inl (unfit, same ∙ ap (λ (r : BasisState). r.basis) first)
      by (inr (k, less, has, is, goes, unfit)) = inr (
        k,
        less,
        record {
          last = last_of k s basis has is same;
          goes_on = subst (λ r. ends (turn F r) ≡ false) is goes;
        },
        subst (λ r. turn_fits (readings F r) (turn F r) ≡ false) is unfit,
      )
  along_trail (Err Memory) h = tt
