-- At each end of the trail the answer that is read off is right.
use Rattle.std.specs.Prelude.{◌≡◌, ℕ, ◌+◌, ◌<◌, ◌≤◌}
use Rattle.std.proofs.Common.{sym, ◌∙◌, ap, ap₂, arith, subst}
use Rattle.ratio_core.specs.Rational.{Rational, neg_ℚ, one_ℚ, zero_ℚ, ◌*ℚ◌, ◌-ℚ◌, ◌≤ℚ◌, ◌‹ℚ◌}
use Rattle.rational_laws.specs.Field.{*ℚ-zero, -ℚ-itself, zero-*ℚ}
use Rattle.rational_laws.specs.Order.{nonneg_add, nonneg_mul, nonneg_neg, nonpos_mul, zero_‹ℚ_one, ≤ℚ_from_nonneg, ≤ℚ_from_‹ℚ, ≤ℚ_refl}
use Rattle.simplex_form.specs.Basis.{BasisState, basic}
use Rattle.simplex_form.specs.Board.{entry, multiplier, point, price, ray, right_side}
use Rattle.simplex_form.specs.BoundedSums.{delta, sum_to}
use Rattle.simplex_form.specs.Form.{Form, IsFormFeasible, IsFormInfeasible, IsFormOptimal, IsFormUnbounded, column, cost_at, first_cost, left_side, second_cost, weighted}
use Rattle.simplex_form.specs.Readings.{readings}
use Rattle.simplex_form.specs.Standing.{Enters, HasNoNegativePrice, HasNoPositiveEntry, HasRightAnswer, IsDrained, IsSwept, StandsAtBasis, TurnSays, infeasibility}
use Rattle.simplex_form.specs.declared.turn.Turn.{Turn}
use Rattle.simplex_form.specs.declared.turn.Turn.TheVariants.{Infeasible, Optimal, Pivot, Stuck, Unbounded}
use Rattle.simplex_laws.specs.AgreementLaws.{real_column}
use Rattle.simplex_laws.specs.BoundedSumLaws.{delta_other, delta_same, same_or_other, sum_to_nonneg, sum_to_nonpos, sum_to_same, sum_to_zeros}
use Rattle.simplex_laws.specs.TurnLaws.{column_real, first_cost_real, past_reals, second_cost_artificial, second_cost_real}
use Rattle.simplex_laws.specs.ValueLaws.{equal_costs, point_meets, price_by_multipliers, ray_cost, ray_stays, sum_to_shorter, weighted-multiplier}

pub delta_nonneg : (i k : ℕ) → zero_ℚ ≤ℚ delta i k
delta_nonneg i k =
    same_or_other (zero_ℚ ≤ℚ delta i k) i k
    (λ e. subst (λ j. zero_ℚ ≤ℚ delta i j) e (subst (λ x. zero_ℚ ≤ℚ x) (sym (delta_same i))
    (≤ℚ_from_‹ℚ zero_ℚ one_ℚ zero_‹ℚ_one)))
    (λ n. subst (λ x. zero_ℚ ≤ℚ x) (sym (delta_other i k n)) (≤ℚ_refl zero_ℚ))

-- ---- from all columns to the real ones

module _ (F : Form) (x : ℕ → Rational) where
  -- the equations, where x is 0 at the artificial columns
  real_left_side : ((j : ℕ) → F.reals ≤ j → x j ≡ zero_ℚ) → (i : ℕ)
      → sum_to (F.reals + F.rows) (λ j. column F j i *ℚ x j) ≡ left_side F x i
  real_left_side z i =
      sum_to_shorter (F.reals + F.rows) F.reals (λ j. column F j i *ℚ x j)
      (past_reals F.reals F.rows) (λ j a _. ap (λ y. column F j i *ℚ y) (z j a)
      ∙ *ℚ-zero (column F j i))
      ∙ sum_to_same F.reals (λ j. column F j i *ℚ x j) (λ j. F.matrix i j *ℚ x j)
      (λ j b. ap (λ y. y *ℚ x j) (column_real F j i b))

  -- the second costs, whatever x is there
  real_cost : sum_to (F.reals + F.rows) (λ j. second_cost F j *ℚ x j) ≡ cost_at F x
  real_cost =
      sum_to_shorter (F.reals + F.rows) F.reals (λ j. second_cost F j *ℚ x j)
      (past_reals F.reals F.rows) (λ j a _. ap (λ y. y *ℚ x j) (second_cost_artificial F j a)
      ∙ zero-*ℚ (x j))
      ∙ sum_to_same F.reals (λ j. second_cost F j *ℚ x j) (λ j. F.costs j *ℚ x j)
      (λ j b. ap (λ y. y *ℚ x j) (second_cost_real F j b))

real_weighted : (F : Form) (y : ℕ → Rational) (j : ℕ) → j < F.reals
    → weighted F y (column F j) ≡ weighted F y (λ i. F.matrix i j)
real_weighted F y j b = sum_to_same F.rows (λ i. y i *ℚ column F j i) (λ i. y i *ℚ F.matrix i j)
    (λ i _. ap (λ x. y i *ℚ x) (column_real F j i b))

-- values w at the basic columns leave an artificial column at 0, where each row of one has 0
placed_zero : (F : Form) (s : BasisState) (w : ℕ → Rational)
    → ((i : ℕ) → i < F.rows → F.reals ≤ basic s i → w i ≡ zero_ℚ) → (j : ℕ) → F.reals ≤ j
    → sum_to F.rows (λ i. delta (basic s i) j *ℚ w i) ≡ zero_ℚ
placed_zero F s w z j a =
    sum_to_zeros F.rows (λ i. delta (basic s i) j *ℚ w i)
    (λ i b. same_or_other (delta (basic s i) j *ℚ w i ≡ zero_ℚ) (basic s i) j
    (λ e. ap (λ y. delta (basic s i) j *ℚ y) (z i b (subst (λ k. F.reals ≤ k) (sym e) a))
    ∙ *ℚ-zero (delta (basic s i) j))
    (λ n. ap (λ y. y *ℚ w i) (delta_other (basic s i) j n) ∙ zero-*ℚ (w i)))

-- a price of a real column says how its multipliers stand to its cost
weighted_at_most : (F : Form) (s : BasisState) → StandsAtBasis F s → (cost : ℕ → Rational) (j : ℕ)
    → j < F.reals
    → zero_ℚ ≤ℚ price F s cost j → weighted F (multiplier F s cost) (λ i. F.matrix i j) ≤ℚ cost j
weighted_at_most F s h cost j b k =
    subst (λ x. x ≤ℚ cost j) (real_weighted F (multiplier F s cost) j b)
    (≤ℚ_from_nonneg (weighted F (multiplier F s cost) (column F j)) (cost j)
    (subst (λ x. zero_ℚ ≤ℚ x) (price_by_multipliers F s h.basis cost j) k))

-- ---- the ends

module _ (F : Form) (s : BasisState) (h : StandsAtBasis F s) where
  pub point_feasible : IsDrained (readings F s) → IsFormFeasible F (point F s)
  point_feasible d = record {
    nonneg = λ j b. sum_to_nonneg F.rows (λ i. delta (basic s i) j *ℚ right_side F s i)
        (λ i c. nonneg_mul (delta (basic s i) j) (right_side F s i) (delta_nonneg (basic s i) j)
        (h.nonneg i c));
    meets = λ i b. sym (real_left_side F (point F s) (placed_zero F s (right_side F s) d) i)
        ∙ point_meets F s h.basis i b;
  }

  pub optimal_right : IsDrained (readings F s)
      → HasNoNegativePrice (readings F s) (price F s (second_cost F))
      → IsFormOptimal F (point F s) (multiplier F s (second_cost F))
  optimal_right d k = record {
    feasible = point_feasible d;
    reduced = λ j b. subst (λ x. weighted F (multiplier F s (second_cost F)) (λ i. F.matrix i j) ≤ℚ
        x) (second_cost_real F j b) (weighted_at_most F s h (second_cost F) j b (k j b));
    equal = equal_costs F s h.basis (second_cost F) ∙ real_cost F (point F s);
  }

  pub infeasible_right : HasNoNegativePrice (readings F s) (price F s (first_cost F))
      → zero_ℚ ‹ℚ infeasibility F s → IsFormInfeasible F (multiplier F s (first_cost F))
  infeasible_right k above = record {
    nonpos = λ j b. subst (λ x. weighted F (multiplier F s (first_cost F)) (λ i. F.matrix i j) ≤ℚ x)
        (first_cost_real F j b) (weighted_at_most F s h (first_cost F) j b (k j b));
    above = subst (λ x. zero_ℚ ‹ℚ x) (sym (weighted-multiplier F s h.basis (first_cost F) F.right))
        above;
  }

  ray_nonneg : (q : ℕ) → HasNoPositiveEntry (readings F s) q → (j : ℕ) → zero_ℚ ≤ℚ ray F s q j
  ray_nonneg q none j =
      nonneg_add (delta q j) (neg_ℚ (sum_to F.rows (λ i. delta (basic s i) j *ℚ entry F s q i)))
      (delta_nonneg q j)
      (nonneg_neg (sum_to F.rows (λ i. delta (basic s i) j *ℚ entry F s q i))
      (sum_to_nonpos F.rows (λ i. delta (basic s i) j *ℚ entry F s q i)
      (λ i b. nonpos_mul (delta (basic s i) j) (entry F s q i) (delta_nonneg (basic s i) j)
      (none i b))))

  ray_real : (q : ℕ) → q < F.reals → IsSwept (readings F s) → (j : ℕ) → F.reals ≤ j
      → ray F s q j ≡ zero_ℚ
  ray_real q b w j a =
      ap₂ ◌-ℚ◌ (delta_other q j (λ e. other_lem q F.reals j b a e))
      (placed_zero F s (entry F s q) (λ i c k. w i q c k b) j a) ∙ -ℚ-itself zero_ℚ
    where
      other_lem : (q c j : ℕ) → q < c → c ≤ j → q ≡ j → ⊥
      other_lem q c j h k e = absurd (omega (arith, h, k, e))

  pub unbounded_right : (q : ℕ) → IsDrained (readings F s) → IsSwept (readings F s)
      → Enters (readings F s) (price F s (second_cost F)) q → HasNoPositiveEntry (readings F s) q
      → IsFormUnbounded F (point F s) (ray F s q)
  unbounded_right q d w e none = record {
    feasible = point_feasible d;
    nonneg = λ j b. ray_nonneg q none j;
    stays = λ i b. sym (real_left_side F (ray F s q) (ray_real q e.real w) i)
        ∙ ray_stays F s h.basis q i (real_column q F.reals F.rows e.real) b;
    falls = subst (λ x. x ‹ℚ zero_ℚ) (sym (ray_cost F s h.basis (second_cost F) q
        (real_column q F.reals F.rows e.real)) ∙ real_cost F (ray F s q)) e.negative;
  }

  pub end_right : (t : Turn) → TurnSays F s t → HasRightAnswer F s t
  end_right (Pivot phase r q) k = tt
  end_right Stuck k = tt
  end_right Infeasible k = infeasible_right k.0 k.1
  end_right (Unbounded q) k = unbounded_right q k.0 k.1 k.2 k.3
  end_right Optimal k = optimal_right k.0 k.2
