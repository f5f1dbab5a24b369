-- What is said of the outcome is right.
use Rattle.std.specs.Prelude.{◌≡◌, ℕ, ◌<◌, true, false, IfOk, Result, Ok, Err, List, refl}
use Rattle.std.specs.List.{range_with_len}
use Rattle.std.proofs.Common.{sym, ◌∙◌, ap, subst}
use Rattle.std.proofs.lemmas.Bool.{cond-false, cond-true}
use Rattle.ratio_core.specs.Rational.{Rational, zero_ℚ, ◌*ℚ◌, ◌≤ℚ◌, ◌‹ℚ◌}
use Rattle.simplex_laws.specs.BoundedSumLaws.{sum_to_same}
use Rattle.simplex_form.specs.Form.{Form, IsFormFeasible, IsFormInfeasible, IsFormOptimal, IsFormUnbounded, IsStandard, cost_at, first_cost, left_side, second_cost, weighted}
use Rattle.simplex_form.specs.Basis.{BasisState, start}
use Rattle.simplex_form.specs.Board.{multiplier, point, ray}
use Rattle.simplex_form.specs.declared.turn.Turn.{Turn}
use Rattle.simplex_form.specs.Fit.{start_fits}
use Rattle.simplex_form.specs.Standing.{HasRightAnswer}
use Rattle.simplex_form.specs.TrailOutcome.{IsOutcome, outcome, outcome_from, overflowing}
use Rattle.simplex_laws.specs.OutcomeLaws.{ended_right, outcome_is}
use Rattle.tableau_core.specs.Row.{cell}
use Rattle.simplex_core.specs.declared.answer.SolverAnswer.{SolverAnswer}
use Rattle.simplex_core.specs.declared.answer.SolverAnswer.TheVariants.{Infeasible, Optimal, Unbounded}
use Rattle.simplex_core.specs.declared.fault.SolveFault.{SolveFault}
use Rattle.simplex_core.specs.declared.fault.SolveFault.TheVariants.{Overflow}
use Rattle.simplex_core.specs.declared.form.StdForm.{StdForm}
use Rattle.simplex_core.specs.Answer.{IsReadOff, IsRightAnswer, TellsOutcome}
use Rattle.simplex_core.specs.StdForm.{IsWellShaped, equality_form}

-- ---- answers that agree on the rows and the real columns

module _ (F : Form) where
  cost_same : (x z : ℕ → Rational) → ((j : ℕ) → j < F.reals → x j ≡ z j) → cost_at F x ≡ cost_at F z
  cost_same x z e =
      sum_to_same F.reals (λ j. F.costs j *ℚ x j) (λ j. F.costs j *ℚ z j)
      (λ j b. ap (λ q. F.costs j *ℚ q) (e j b))

  left_same : (x z : ℕ → Rational) → ((j : ℕ) → j < F.reals → x j ≡ z j) → (i : ℕ)
      → left_side F x i ≡ left_side F z i
  left_same x z e i =
      sum_to_same F.reals (λ j. F.matrix i j *ℚ x j) (λ j. F.matrix i j *ℚ z j)
      (λ j b. ap (λ q. F.matrix i j *ℚ q) (e j b))

  weighted_same : (y w v : ℕ → Rational) → ((i : ℕ) → i < F.rows → y i ≡ w i)
      → weighted F y v ≡ weighted F w v
  weighted_same y w v e =
      sum_to_same F.rows (λ i. y i *ℚ v i) (λ i. w i *ℚ v i) (λ i b. ap (λ q. q *ℚ v i) (e i b))

  feasible_same : (x z : ℕ → Rational) → ((j : ℕ) → j < F.reals → x j ≡ z j) → IsFormFeasible F x
      → IsFormFeasible F z
  feasible_same x z e h = record {
    nonneg = λ j b. subst (λ q. zero_ℚ ≤ℚ q) (e j b) (h.nonneg j b);
    meets = λ i b. sym (left_same x z e i) ∙ h.meets i b;
  }

  optimal_same : (x z y w : ℕ → Rational) → ((j : ℕ) → j < F.reals → x j ≡ z j)
      → ((i : ℕ) → i < F.rows → y i ≡ w i) → IsFormOptimal F x y → IsFormOptimal F z w
  optimal_same x z y w e f h = record {
    feasible = feasible_same x z e h.feasible;
    reduced = λ j b. subst (λ q. q ≤ℚ F.costs j) (weighted_same y w (λ i. F.matrix i j) f)
        (h.reduced j b);
    equal = sym (weighted_same y w F.right f) ∙ h.equal ∙ cost_same x z e;
  }

  infeasible_same : (y w : ℕ → Rational) → ((i : ℕ) → i < F.rows → y i ≡ w i) → IsFormInfeasible F y
      → IsFormInfeasible F w
  infeasible_same y w f h = record {
    nonpos = λ j b. subst (λ q. q ≤ℚ zero_ℚ) (weighted_same y w (λ i. F.matrix i j) f)
        (h.nonpos j b);
    above = subst (λ q. zero_ℚ ‹ℚ q) (weighted_same y w F.right f) h.above;
  }

  unbounded_same : (x z d w : ℕ → Rational) → ((j : ℕ) → j < F.reals → x j ≡ z j)
      → ((j : ℕ) → j < F.reals → d j ≡ w j) → IsFormUnbounded F x d → IsFormUnbounded F z w
  unbounded_same x z d w e f h = record {
    feasible = feasible_same x z e h.feasible;
    nonneg = λ j b. subst (λ q. zero_ℚ ≤ℚ q) (f j b) (h.nonneg j b);
    stays = λ i b. sym (left_same d w f i) ∙ h.stays i b;
    falls = subst (λ q. q ‹ℚ zero_ℚ) (cost_same d w f) h.falls;
  }

  read_right : (s : BasisState) (t : Turn) (answer : SolverAnswer) → HasRightAnswer F s t
      → IsReadOff F s t answer → IsRightAnswer F answer
  read_right s t (Optimal x y basis) h k = (
    k.1.long,
    k.2.long,
    optimal_same (point F s) (cell x) (multiplier F s (second_cost F))
        (cell y) (λ j b. sym (k.1.cells j b)) (λ i b. sym (k.2.cells i b))
        (subst (HasRightAnswer F s) k.0 h),
  )
  read_right s t (Infeasible y basis) h k = (
    k.1.long,
    infeasible_same (multiplier F s (first_cost F)) (cell y)
        (λ i b. sym (k.1.cells i b)) (subst (HasRightAnswer F s) k.0 h),
  )
  read_right s t (Unbounded x d basis) h k = (
    k.2.long,
    k.3.long,
    unbounded_same (point F s) (cell x) (ray F s k.0) (cell d)
        (λ j b. sym (k.2.cells j b)) (λ j b. sym (k.3.cells j b)) (subst (HasRightAnswer F s) k.1 h),
  )

  -- ---- from the outcome

  pub tells_right : IsStandard F → (n : ℕ) (res : Result SolverAnswer SolveFault)
      → TellsOutcome F n (outcome F n) res → IfOk res (IsRightAnswer F)
  tells_right h n (Ok answer) k =
      read_right k.0 k.1 answer (ended_right F h n k.0 k.1
      (subst (IsOutcome F n) k.2 (outcome_is F n))) k.3
  tells_right h n (Err e) k = tt

  pub tells_all : (n : ℕ) (res : Result SolverAnswer SolveFault) → start_fits F ≡ true
      → TellsOutcome F n (outcome_from F n (start F)) res → TellsOutcome F n (outcome F n) res
  tells_all n res e k =
      subst (λ o. TellsOutcome F n o res) (sym (cond-true (start_fits F) (outcome_from F n (start F))
      (overflowing (start F)) e)) k

  basis-start : (start F).basis ≡ range_with_len F.reals F.rows
  unfolding start
  basis-start = refl

  pub tells_start : (n : ℕ) (basis : List ℕ) → start_fits F ≡ false
      → basis ≡ range_with_len F.reals F.rows
      → TellsOutcome F n (outcome F n) (Err (Overflow basis))
  tells_start n basis e same = (
    start F,
    cond-false (start_fits F) (outcome_from F n (start F)) (overflowing (start F)) e,
    same ∙ sym basis-start,
  )

pub standard_form : (form : StdForm) → IsWellShaped form → IsStandard (equality_form form)
standard_form form h = λ i b. h.nonneg i zero_ℚ (subst (λ n. i < n) (sym h.right) b)
