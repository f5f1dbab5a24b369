-- What stands at a basis stands at the next.
use Rattle.std.specs.Prelude.{◌≡◌, ℕ, ◌<◌, ◌≤◌, ◌⊎◌}
use Rattle.std.proofs.Common.{inl, inr, sym, ◌∙◌, ap, arith, subst}
use Rattle.ratio_core.specs.Rational.{Rational, inverse_ℚ, zero_ℚ, ◌*ℚ◌, ◌-ℚ◌, ◌≤ℚ◌, ◌‹ℚ◌}
use Rattle.rational_laws.specs.Order.{above_inverse, nonneg_from_≤ℚ, nonneg_mul, nonpos_mul, not_‹ℚ_from_≤ℚ, ≤ℚ-*ℚ_left, ≤ℚ_from_‹ℚ, ≤ℚ_or_‹ℚ, ≤ℚ_refl, ≤ℚ_trans}
use Rattle.rational_laws.specs.Field.{*ℚ_comm}
use Rattle.simplex_form.specs.Basis.{BasisState, IsBasis, basic, pivoted}
use Rattle.simplex_form.specs.Board.{entry, pivot, right_side}
use Rattle.simplex_form.specs.Form.{Form}
use Rattle.simplex_form.specs.Readings.{readings}
use Rattle.simplex_form.specs.Standing.{IsDrained, IsSwept, LeavesBasis, StandsAtBasis, StandsIn, Sweeps, TurnSays}
use Rattle.simplex_form.specs.Trail.{after}
use Rattle.simplex_form.specs.Turns.{ratio}
use Rattle.simplex_form.specs.declared.turn.Phase.{Phase}
use Rattle.simplex_form.specs.declared.turn.Phase.TheVariants.{First, Second, Sweep}
use Rattle.simplex_form.specs.declared.turn.Turn.{Turn}
use Rattle.simplex_form.specs.declared.turn.Turn.TheVariants.{Infeasible, Optimal, Pivot, Stuck, Unbounded}
use Rattle.simplex_laws.specs.BoardLaws.{basic-pivot_at, basic-pivot_off, basis-pivot, entry-pivot, right_side-pivot}
use Rattle.simplex_laws.specs.InverseLaws.{pivoted_unmoved, pivoted_zero}
use Rattle.simplex_laws.specs.PivotLaws.{pivoted_each, quotient_back}
use Rattle.simplex_laws.specs.RuleLaws.{at_most_from_first}
use Rattle.simplex_laws.specs.AgreementLaws.{real_column}

pub above_not_zero : (p : Rational) → zero_ℚ ‹ℚ p → ¬ (p ≡ zero_ℚ)
above_not_zero p h e = not_‹ℚ_from_≤ℚ zero_ℚ zero_ℚ (≤ℚ_refl zero_ℚ) (subst (λ x. zero_ℚ ‹ℚ x) e h)

-- ---- right sides

-- the ratio test keeps a number from falling below 0
within_step : (x e t w : Rational) → zero_ℚ ≤ℚ x → zero_ℚ ≤ℚ t
    → (zero_ℚ ‹ℚ e → t ≤ℚ (x *ℚ inverse_ℚ e)) → zero_ℚ ≤ℚ (x -ℚ e *ℚ t)
within_step x e t w h k least = nonneg_from_≤ℚ (e *ℚ t) x (by_sign (≤ℚ_or_‹ℚ e zero_ℚ))
  where
    by_sign : (e ≤ℚ zero_ℚ) ⊎ (zero_ℚ ‹ℚ e) → (e *ℚ t) ≤ℚ x
    by_sign (inl low) =
        ≤ℚ_trans (e *ℚ t) zero_ℚ x (subst (λ y. y ≤ℚ zero_ℚ) (*ℚ_comm t e) (nonpos_mul t e k low)) h
    by_sign (inr high) =
        subst (λ y. (e *ℚ t) ≤ℚ y) (quotient_back e x (above_not_zero e high))
        (≤ℚ-*ℚ_left t (x *ℚ inverse_ℚ e) e (least high) (≤ℚ_from_‹ℚ zero_ℚ e high))

module _ (F : Form) (s : BasisState) (h : StandsAtBasis F s) where
  -- the step's length
  step_nonneg : (q r : ℕ) → LeavesBasis (readings F s) q r → zero_ℚ ≤ℚ ratio (readings F s) q r
  step_nonneg q r k =
      nonneg_mul (right_side F s r) (inverse_ℚ (entry F s q r)) (h.nonneg r k.row)
      (≤ℚ_from_‹ℚ zero_ℚ (inverse_ℚ (entry F s q r)) (above_inverse (entry F s q r) k.above))

  leaving_nonneg : (q r i : ℕ) → LeavesBasis (readings F s) q r → i < F.rows
      → zero_ℚ ≤ℚ pivoted r (entry F s q) (right_side F s) i
  leaving_nonneg q r i k b =
      pivoted_each (λ _ x. zero_ℚ ≤ℚ x) r (entry F s q) (right_side F s) i (step_nonneg q r k)
      (λ _. within_step (right_side F s i) (entry F s q i) (ratio (readings F s) q r) zero_ℚ
      (h.nonneg i b) (step_nonneg q r k) (λ a. at_most_from_first (ratio (readings F s) q r)
      (ratio (readings F s) q i) (basic s r) (basic s i) (k.least i b a)))

  pub nonneg-leaving : (phase : Phase) (q r : ℕ) → LeavesBasis (readings F s) q r → (i : ℕ)
      → i < F.rows
      → zero_ℚ ≤ℚ right_side F (pivot F s phase r q) i
  nonneg-leaving phase q r k i b =
      subst (λ x. zero_ℚ ≤ℚ x) (sym (right_side-pivot F s phase r q i)) (leaving_nonneg q r i k b)

  -- a pivot on a row of right side 0 moves no right side
  pub right_side-still : (phase : Phase) (q r : ℕ) → right_side F s r ≡ zero_ℚ → (i : ℕ)
      → right_side F (pivot F s phase r q) i ≡ right_side F s i
  right_side-still phase q r e i = right_side-pivot F s phase r q i
      ∙ pivoted_zero r (entry F s q) (right_side F s) i e

  -- ---- rows of artificial columns

  -- such a row of the next basis isn't the pivot's, and it was one before
  artificial_before : (phase : Phase) (q r i : ℕ) → r < F.rows → q < F.reals
      → F.reals ≤ basic (pivot F s phase r q) i → (¬ (i ≡ r)) × (F.reals ≤ basic s i)
  artificial_before phase q r i b c a =
      (other, subst (λ j. F.reals ≤ j) (basic-pivot_off F s phase r q i other) a)
    where
      at_lem : (q c j : ℕ) → q < c → c ≤ j → j ≡ q → ⊥
      at_lem q c j h k e = absurd (omega (arith, h, k, e))

      other : ¬ (i ≡ r)
      other e = at_lem q F.reals (basic (pivot F s phase r q) i) c a
          (ap (λ k. basic (pivot F s phase r q) k) e ∙ basic-pivot_at F s phase r q h.basis b)

  pub drained-swept : (phase : Phase) (q r : ℕ) → r < F.rows → q < F.reals
      → IsDrained (readings F s) → IsSwept (readings F s)
      → IsDrained (readings F (pivot F s phase r q))
  drained-swept phase q r b c d w i e a =
      let before : (¬ (i ≡ r)) × (F.reals ≤ basic s i) = artificial_before phase q r i b c a in
      right_side-pivot F s phase r q i
      ∙ pivoted_unmoved r (entry F s q) (right_side F s) i before.0 (w i q e before.1 c)
      ∙ d i e before.1

  pub swept-swept : (phase : Phase) (q r : ℕ) → r < F.rows → q < F.reals → IsSwept (readings F s)
      → IsSwept (readings F (pivot F s phase r q))
  swept-swept phase q r b c w i j e a d =
      let before : (¬ (i ≡ r)) × (F.reals ≤ basic s i) = artificial_before phase q r i b c a in
      entry-pivot F s phase r q j i
      ∙ pivoted_unmoved r (entry F s q) (entry F s j) i before.0 (w i q e before.1 c)
      ∙ w i j e before.1 d

  pub drained-still : (phase : Phase) (q r : ℕ) → r < F.rows → q < F.reals
      → right_side F s r ≡ zero_ℚ → IsDrained (readings F s)
      → IsDrained (readings F (pivot F s phase r q))
  drained-still phase q r b c z d i e a = right_side-still phase q r z i
      ∙ d i e (artificial_before phase q r i b c a).1

  -- ---- the next basis

  basis-leaving : (phase : Phase) (q r : ℕ) → q < F.reals → LeavesBasis (readings F s) q r
      → IsBasis F (pivot F s phase r q)
  basis-leaving phase q r c k = basis-pivot F s phase r q h.basis k.row
      (real_column q F.reals F.rows c) (above_not_zero (entry F s q r) k.above)

  basis-sweep : (q r : ℕ) → Sweeps (readings F s) r q → IsBasis F (pivot F s Sweep r q)
  basis-sweep q r k =
      basis-pivot F s Sweep r q h.basis k.row (real_column q F.reals F.rows k.real) k.other

  nonneg-sweep : (q r : ℕ) → IsDrained (readings F s) → Sweeps (readings F s) r q → (i : ℕ)
      → i < F.rows → zero_ℚ ≤ℚ right_side F (pivot F s Sweep r q) i
  nonneg-sweep q r d k i b = subst (λ x. zero_ℚ ≤ℚ x)
      (sym (right_side-still Sweep q r (d r k.row k.artificial) i)) (h.nonneg i b)

  phase-pivot : (phase : Phase) (q r : ℕ) → StandsIn phase (readings F (pivot F s phase r q))
      → StandsIn (pivot F s phase r q).phase (readings F (pivot F s phase r q))
  unfolding pivot
  phase-pivot phase q r k = k

  -- each turn leads to a basis where the same stands
  pub after_stands : (t : Turn) → TurnSays F s t → StandsAtBasis F (after F s t)
  after_stands (Pivot First r q) k = record {
    basis = basis-leaving First q r k.0.real k.1;
    nonneg = nonneg-leaving First q r k.1;
    phase = phase-pivot First q r tt;
  }
  after_stands (Pivot Sweep r q) k = record {
    basis = basis-sweep q r k.1;
    nonneg = nonneg-sweep q r k.0 k.1;
    phase = phase-pivot Sweep q r (drained-still Sweep q r k.1.row k.1.real
        (k.0 r k.1.row k.1.artificial) k.0);
  }
  after_stands (Pivot Second r q) k = record {
    basis = basis-leaving Second q r k.2.real k.3;
    nonneg = nonneg-leaving Second q r k.3;
    phase = phase-pivot Second q r (
      drained-swept Second q r k.3.row k.2.real k.0 k.1,
      swept-swept
          Second q r k.3.row k.2.real k.1,
    );
  }
  after_stands Stuck k = h
  after_stands Infeasible k = h
  after_stands (Unbounded q) k = h
  after_stands Optimal k = h
