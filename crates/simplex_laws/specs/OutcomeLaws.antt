-- The outcome is what it says, and an end that is answered is answered right.
use Rattle.std.specs.Prelude.{◌≡◌, ℕ, zero, suc, ◌+◌, ◌≤◌, ◌&&◌, true, false, is_some, if◌then◌else◌, refl}
use Rattle.std.proofs.Common.{inl, inr, sym, ◌∙◌, arith, subst, true≢false}
use Rattle.std.proofs.lemmas.Bool.{cond_both}
use Rattle.simplex_form.specs.Basis.{BasisState, start}
use Rattle.simplex_form.specs.Fit.{start_fits, turn_fits}
use Rattle.simplex_form.specs.Form.{Form, IsStandard}
use Rattle.simplex_form.specs.TrailOutcome.{HasTrail, IsOutcome, TrailOutcome, ended, limited, outcome, outcome_from, overflowing, unless_ended}
use Rattle.simplex_form.specs.Readings.{Readings, readings}
use Rattle.simplex_form.specs.Standing.{HasRightAnswer}
use Rattle.simplex_form.specs.Trail.{ends, pivot_phase, reached}
use Rattle.simplex_form.specs.Turns.{turn}
use Rattle.simplex_form.specs.declared.turn.Turn.{Turn}
use Rattle.simplex_form.specs.declared.turn.Turn.TheVariants.{Infeasible, Optimal, Pivot, Stuck, Unbounded}
use Rattle.simplex_laws.specs.TrailLaws.{answers_right, trail_more, trail_start}

-- a turn that is no end and fits is a pivot
pivots_on : (R : Readings) (t : Turn) → ends t ≡ false → turn_fits R t ≡ true
    → (is_some (pivot_phase t) && turn_fits R t) ≡ true
pivots_on R (Pivot phase r q) e f = f
pivots_on R Stuck e f = absurd (true≢false (sym f))
pivots_on R Infeasible e f = absurd (true≢false e)
pivots_on R (Unbounded q) e f = absurd (true≢false e)
pivots_on R Optimal e f = absurd (true≢false e)

module _ (F : Form) where
  longer : (k : ℕ) → HasTrail F k → ends (turn F (reached F k)) ≡ false
      → turn_fits (readings F (reached F k)) (turn F (reached F k)) ≡ true → HasTrail F (suc k)
  longer k h e f =
      trail_more F k h (pivots_on (readings F (reached F k)) (turn F (reached F k)) e f)

  at_end : (n k : ℕ) → k ≤ n → HasTrail F k → (other : TrailOutcome)
      → (ends (turn F (reached F k)) ≡ false → IsOutcome F n other)
      → IsOutcome F n (unless_ended F (reached F k) other)
  at_end n k b h other more =
      cond_both (ends (turn F (reached F k))) (ended (reached F k) (turn F (reached F k))) other
      (IsOutcome F n) (λ e. (k, b, h, refl, refl, e)) more

  -- from the basis that k steps lead to, with m more
  from_reached : (n m k : ℕ) → k + m ≡ n → HasTrail F k
      → IsOutcome F n (outcome_from F m (reached F k))
  from_reached n zero k e h =
      at_end n k (omega (arith, e)) h (limited (reached F k))
      (λ f. subst (λ i. IsOutcome F i (limited (reached F k))) (sym (zero_lem k) ∙ e)
      (h, refl, f))
    where
      zero_lem : (k : ℕ) → k + 0 ≡ k
      zero_lem k = omega arith
  from_reached n (suc m) k e h =
      at_end n k (omega (arith, e)) h (if turn_fits (readings F (reached F k))
      (turn F (reached F k)) then outcome_from F m (reached F (suc k))
      else overflowing (reached F k))
      (λ f. cond_both (turn_fits (readings F (reached F k)) (turn F (reached F k)))
      (outcome_from F m (reached F (suc k))) (overflowing (reached F k)) (IsOutcome F n)
      (λ g. from_reached n m (suc k) (omega (arith, e)) (longer k h f g))
      (λ g. inr (k, omega (arith, e), h, refl, f, g)))

  -- the outcome is what it says
  pub outcome_is : (n : ℕ) → IsOutcome F n (outcome F n)
  outcome_is n =
      cond_both (start_fits F) (outcome_from F n (start F)) (overflowing (start F)) (IsOutcome F n)
      (λ e. from_reached n n 0 (zero_lem n) (trail_start F e)) (λ e. inl (e, refl))
    where
      zero_lem : (n : ℕ) → 0 + n ≡ n
      zero_lem n = omega arith

  -- and an end is answered right
  pub ended_right : IsStandard F → (n : ℕ) (s : BasisState) (t : Turn) → IsOutcome F n (ended s t)
      → HasRightAnswer F s t
  ended_right h n s t o =
      subst (λ u. HasRightAnswer F s u) (sym o.4) (subst (λ x. HasRightAnswer F x (turn F x)) (sym o.3)
      (answers_right F h o.0))
