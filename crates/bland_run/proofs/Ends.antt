-- What the outcome with the whole allowance says of the end of the trail.
use Rattle.std.proofs.Common.{◌≡◌, ℕ, ap, arith, inl, inr, refl, subst, sym, ◌∙◌, Some}
use Rattle.std.specs.Prelude.{List, IsSome, Result, Ok, Err, ◌≤◌}
use Rattle.std.proofs.lemmas.Option.{none-some}
use Rattle.std.specs.Option.{unwrap_or}
use Rattle.bland_rule_laws.specs.Bounded.{unlimited}
use Rattle.bland_rule_laws.specs.Cycles.{most_steps}
use Rattle.simplex_core.specs.declared.answer.SolverAnswer.{SolverAnswer}
use Rattle.simplex_core.specs.declared.fault.SolveFault.{SolveFault}
use Rattle.simplex_core.specs.declared.fault.SolveFault.TheVariants as solve
use Rattle.simplex_core.specs.Answer.{IsReadOff, SaysOutcome, TellsOutcome}
use Rattle.simplex_form.specs.declared.turn.Turn.{Turn}
use Rattle.simplex_form.specs.Basis.{BasisState}
use Rattle.simplex_form.specs.Fit.{turn_fits}
use Rattle.simplex_form.specs.Form.{Form, IsStandard}
use Rattle.simplex_form.specs.TrailOutcome.{IsOutcome, TrailOutcome, ended, outcome, overflowing}
use Rattle.simplex_form.specs.Readings.{readings}
use Rattle.simplex_form.specs.Trail.{ends}
use Rattle.simplex_form.specs.Turns.{turn}
use Rattle.simplex_laws.specs.OutcomeLaws.{outcome_is}
use Rattle.bland_run.specs.declared.fault.SmallFault.{SmallFault}
use Rattle.bland_run.specs.declared.fault.SmallFault.TheVariants.{Memory, Overflow}
use Rattle.bland_run.specs.Small.{EndsTrail, TellsSmall, small_fault_of}

-- ---- no Limit

module _ (F : Form) (standard : IsStandard F) (n : ℕ) (same : n ≡ most_steps F) where
  not_limited : (fault : SolveFault)
      → TellsOutcome F (most_steps F) (outcome F (most_steps F)) (Err fault)
      → IsSome (small_fault_of fault)
  not_limited (solve.Limit basis pivots) h =
      absurd (unlimited F standard (most_steps F) h.0 (same_lem (most_steps F)) h.1)
    where
      same_lem : (x : ℕ) → x ≤ x
      same_lem x = omega arith
  not_limited (solve.Overflow basis) h = refl
  not_limited solve.Memory h = refl

  pub no_limit : (fault : SolveFault) → SaysOutcome F n (Err fault)
      → IsSome (small_fault_of fault)
  no_limit fault h = not_limited fault (subst (λ k. SaysOutcome F k (Err fault)) same h)

module _ (F : Form) (o : TrailOutcome) (m : ℕ) where
  -- a fault is reported as it is
  told_lem : (fault : SolveFault) (small : SmallFault) → TellsOutcome F m o (Err fault)
      → small_fault_of fault ≡ Some small → TellsSmall F o (Err small)
  told_lem (solve.Limit basis pivots) small h e = absurd (none-some small e)
  told_lem (solve.Overflow basis) small h e =
      subst (λ f. TellsSmall F o (Err f)) (ap (λ f. unwrap_or f small) e) h
  told_lem solve.Memory small h e =
      subst (λ f. TellsSmall F o (Err f)) (ap (λ f. unwrap_or f small) e) tt

pub told_small : (F : Form) (n : ℕ) (fault : SolveFault) (small : SmallFault) → n ≡ most_steps F
    → SaysOutcome F n (Err fault) → small_fault_of fault ≡ Some small
    → TellsSmall F (outcome F (most_steps F)) (Err small)
told_small F n fault small same h e =
    told_lem F (outcome F (most_steps F)) (most_steps F) fault small
    (subst (λ k. SaysOutcome F k (Err fault)) same h) e

pub answered_small : (F : Form) (n : ℕ) (answer : SolverAnswer) → n ≡ most_steps F
    → SaysOutcome F n (Ok answer) → TellsSmall F (outcome F (most_steps F)) (Ok answer)
answered_small F n answer same h = subst (λ k. SaysOutcome F k (Ok answer)) same h

-- ---- the end of the trail

module _ (F : Form) (n : ℕ) (o : TrailOutcome) (is : IsOutcome F n o) where
  -- an answer is read off after some number of pivots
  read_off_after : (answer : SolverAnswer) (s : BasisState) (t : Turn) → o ≡ ended s t
      → IsReadOff F s t answer → EndsTrail F (Ok answer)
  read_off_after answer s t e h =
      let at : IsOutcome F n (ended s t) = subst (IsOutcome F n) e is in (
        at.0,
        (
          at.2,
          ap (λ x. ends (turn F x)) (sym at.3) ∙ ap ends (sym at.4) ∙ at.5,
          subst (λ x. IsReadOff F x (turn F x) answer) at.3
              (subst (λ u. IsReadOff F s u answer) at.4 h),
        ),
      )

  -- a step that doesn't fit comes at the start or after some number of pivots
  stops_after : (basis : List ℕ) (s : BasisState) → o ≡ overflowing s → basis ≡ s.basis
      → EndsTrail F (Err (Overflow basis))
  stops_after basis s e h = by_cause (subst (IsOutcome F n) e is)
    where
      by_cause : IsOutcome F n (overflowing s) → EndsTrail F (Err (Overflow basis))
      by_cause (inl at) = inl (at.0, h ∙ ap (λ x. x.basis) at.1)
      by_cause (inr at) = inr (
        at.0,
        (
          at.2,
          ap (λ x. ends (turn F x)) (sym at.3) ∙ at.4,
          ap (λ x. turn_fits (readings F x) (turn F x)) (sym at.3) ∙ at.5,
        ),
        h ∙ ap (λ x. x.basis) at.3,
      )

  ends_lem : (res : Result SolverAnswer SmallFault) → TellsSmall F o res → EndsTrail F res
  ends_lem (Ok answer) h = read_off_after answer h.0 h.1 h.2 h.3
  ends_lem (Err (Overflow basis)) h = stops_after basis h.0 h.1 h.2
  ends_lem (Err Memory) h = tt

pub ends_trail : (F : Form) (n : ℕ) (res : Result SolverAnswer SmallFault)
    → TellsSmall F (outcome F n) res → EndsTrail F res
ends_trail F n res h = ends_lem F n (outcome F n) (outcome_is F n) res h
