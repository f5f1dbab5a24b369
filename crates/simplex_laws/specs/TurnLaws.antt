-- Each turn says what it is to say; above all the first phase is never unbounded, and ends with
-- each artificial column at 0 where it isn't infeasible.
use Rattle.std.specs.Prelude.{◌≡◌, ℕ, ◌+◌, ◌-◌, ◌<◌, ◌≤◌, Bool, ◌&&◌, true, false, cond, nat_lt, Option, Some, None, if◌then◌else◌, refl}
use Rattle.std.proofs.Common.{sym, ◌∙◌, ap, arith, subst, true≢false}
use Rattle.std.proofs.lemmas.Bool.{and_parts, cond-false, cond-true, le-leb, le-ltb, leb-true, lt-ltb}
use Rattle.ratio_core.specs.Rational.{Rational, neg_ℚ, one_ℚ, zero_ℚ, ◌*ℚ◌, ◌-ℚ◌, ◌≤ℚ◌, ◌‹ℚ◌}
use Rattle.rational_laws.specs.Field.{one-*ℚ, zero-+ℚ}
use Rattle.rational_laws.specs.Order.{nonneg_mul, nonneg_neg, nonpos_mul, not_‹ℚ_from_≤ℚ, zero_‹ℚ_one, ≤ℚ_antisymm, ≤ℚ_from_‹ℚ, ‹ℚ-≤ℚ_trans, ≤ℚ_refl}
use Rattle.rational_laws.specs.Tests.{ge_from_failed, lt_from_test}
use Rattle.simplex_form.specs.Basis.{BasisState, basic}
use Rattle.simplex_form.specs.Board.{entry, price, right_side}
use Rattle.simplex_form.specs.BoundedSums.{delta, sum_to}
use Rattle.simplex_form.specs.Form.{Form, column, first_cost, second_cost}
use Rattle.simplex_form.specs.Readings.{Readings, basic_at, readings}
use Rattle.simplex_form.specs.Standing.{Enters, HasNoNegativePrice, HasNoPositiveEntry, IsDrained, IsSwept, StandsAtBasis, StandsIn, TurnSays, infeasibility}
use Rattle.simplex_form.specs.Turns.{entering, enters, first_turn, infeasible_turn, is_artificial, is_below, is_left_above, leaving, multipliers_fit, second_turn, sweep_turn, swept_entry, turn, turn_in}
use Rattle.simplex_form.specs.declared.turn.Phase.{Phase}
use Rattle.simplex_form.specs.declared.turn.Phase.TheVariants.{First, Second, Sweep}
use Rattle.simplex_laws.specs.BoundedSumLaws.{sum_to_nonpos, term-≤ℚ-sum_to}
use Rattle.simplex_laws.specs.RuleLaws.{IsEntering, IsLeaving, IsSweep, entering_is, leaving_is, swept_entry_is}
use Rattle.simplex_laws.specs.SearchLaws.{some_below_false, some_below_true}

-- ---- the columns and costs, real and artificial

pub first_cost_real : (F : Form) (j : ℕ) → j < F.reals → first_cost F j ≡ zero_ℚ
unfolding first_cost
first_cost_real F j b = cond-true (nat_lt j F.reals) zero_ℚ one_ℚ (lt-ltb j F.reals b)

pub first_cost_artificial : (F : Form) (j : ℕ) → F.reals ≤ j → first_cost F j ≡ one_ℚ
unfolding first_cost
first_cost_artificial F j b = cond-false (nat_lt j F.reals) zero_ℚ one_ℚ (le-ltb j F.reals b)

pub second_cost_real : (F : Form) (j : ℕ) → j < F.reals → second_cost F j ≡ F.costs j
unfolding second_cost
second_cost_real F j b = cond-true (nat_lt j F.reals) (F.costs j) zero_ℚ (lt-ltb j F.reals b)

pub second_cost_artificial : (F : Form) (j : ℕ) → F.reals ≤ j → second_cost F j ≡ zero_ℚ
unfolding second_cost
second_cost_artificial F j b = cond-false (nat_lt j F.reals) (F.costs j) zero_ℚ (le-ltb j F.reals b)

pub column_real : (F : Form) (j i : ℕ) → j < F.reals → column F j i ≡ F.matrix i j
unfolding column
column_real F j i b =
    cond-true (nat_lt j F.reals) (F.matrix i j) (delta (j - F.reals) i) (lt-ltb j F.reals b)

pub column_artificial : (F : Form) (j i : ℕ) → F.reals ≤ j → column F j i ≡ delta (j - F.reals) i
unfolding column
column_artificial F j i b =
    cond-false (nat_lt j F.reals) (F.matrix i j) (delta (j - F.reals) i) (le-ltb j F.reals b)

pub past_reals : (c k : ℕ) → c ≤ c + k
past_reals c k = omega arith

-- that of row k is a unit vector
pub column_unit : (F : Form) (k i : ℕ) → column F (F.reals + k) i ≡ delta k i
column_unit F k i =
    column_artificial F (F.reals + k) i (past_reals F.reals k)
    ∙ ap (λ j. delta j i) (back_lem F.reals k)
  where
    back_lem : (c k : ℕ) → (c + k) - c ≡ k
    back_lem c k = omega arith

first_cost_nonneg : (F : Form) (j : ℕ) → zero_ℚ ≤ℚ first_cost F j
unfolding first_cost
first_cost_nonneg F j = by_test (nat_lt j F.reals)
  where
    by_test : (b : Bool) → zero_ℚ ≤ℚ cond b zero_ℚ one_ℚ
    by_test true = ≤ℚ_refl zero_ℚ
    by_test false = ≤ℚ_from_‹ℚ zero_ℚ one_ℚ zero_‹ℚ_one

-- ---- the first phase

-- where no entry of a real column is positive, its first price isn't negative
first_price_nonneg : (F : Form) (s : BasisState) (q : ℕ) → HasNoPositiveEntry (readings F s) q
    → q < F.reals → zero_ℚ ≤ℚ price F s (first_cost F) q
first_price_nonneg F s q none b =
    subst (λ x. zero_ℚ ≤ℚ (x -ℚ lowered)) (sym (first_cost_real F q b))
    (subst (λ x. zero_ℚ ≤ℚ x) (sym (zero-+ℚ (neg_ℚ lowered)))
    (nonneg_neg lowered (sum_to_nonpos F.rows (λ i. first_cost F (basic s i) *ℚ entry F s q i)
    (λ i c. nonpos_mul (first_cost F (basic s i)) (entry F s q i)
    (first_cost_nonneg F (basic s i)) (none i c)))))
  where
    lowered : Rational
    lowered = sum_to F.rows (λ i. first_cost F (basic s i) *ℚ entry F s q i)

pub first_phase_bounded : (F : Form) (s : BasisState) (q : ℕ)
    → Enters (readings F s) (price F s (first_cost F)) q → HasNoPositiveEntry (readings F s) q → ⊥
first_phase_bounded F s q e none =
    not_‹ℚ_from_≤ℚ zero_ℚ (price F s (first_cost F) q) (first_price_nonneg F s q none e.real)
    e.negative

-- where no artificial column is above 0, each is 0
pub drained_from_test : (R : Readings) → ((i : ℕ) → i < R.rows → zero_ℚ ≤ℚ R.right i)
    → is_left_above R ≡ false → IsDrained R
drained_from_test R nonneg e i b a =
    ≤ℚ_antisymm (R.right i) zero_ℚ (ge_from_failed zero_ℚ (R.right i)
    (second_false (is_artificial R (basic_at R i)) (is_below zero_ℚ (R.right i))
    (le-leb R.reals (basic_at R i) a) (some_below_false R.rows
    (λ k. is_artificial R (basic_at R k) && is_below zero_ℚ (R.right k)) e i b))) (nonneg i b)
  where
    second_false : (a b : Bool) → a ≡ true → (a && b) ≡ false → b ≡ false
    second_false true b e h = h
    second_false false b e h = absurd (true≢false (sym e))

-- where one is, so is their sum
pub infeasibility-above : (F : Form) (s : BasisState)
    → ((i : ℕ) → i < F.rows → zero_ℚ ≤ℚ right_side F s i) → is_left_above (readings F s) ≡ true
    → zero_ℚ ‹ℚ infeasibility F s
infeasibility-above F s nonneg e = by_row (some_below_true F.rows
    (λ k. is_artificial (readings F s) (basic s k) && is_below zero_ℚ (right_side F s k)) e)
  where
    term : ℕ → Rational
    term k = first_cost F (basic s k) *ℚ right_side F s k

    by_row : (k : ℕ) × (k < F.rows)
        × ((is_artificial (readings F s) (basic s k) && is_below zero_ℚ (right_side F s k)) ≡ true)
        → zero_ℚ ‹ℚ infeasibility F s
    by_row found =
        let k : ℕ = found.0 in
        let tests : (is_artificial (readings F s) (basic s k) ≡ true)
        × (is_below zero_ℚ (right_side F s k) ≡ true) = and_parts (is_artificial (readings F s)
        (basic s k)) (is_below zero_ℚ (right_side F s k)) found.2 in
        let value : right_side F s k ≡ term k = sym (ap (λ x. x *ℚ right_side F s k)
        (first_cost_artificial F (basic s k) (leb-true F.reals (basic s k) tests.0))
        ∙ one-*ℚ (right_side F s k)) in
        ‹ℚ-≤ℚ_trans zero_ℚ (term k) (infeasibility F s)
        (subst (λ x. zero_ℚ ‹ℚ x) value (lt_from_test zero_ℚ (right_side F s k) tests.1))
        (term-≤ℚ-sum_to F.rows k term (λ i c. nonneg_mul (first_cost F (basic s i))
        (right_side F s i) (first_cost_nonneg F (basic s i)) (nonneg i c)) found.1)

-- ---- the turns

module _ (F : Form) (s : BasisState) (h : StandsAtBasis F s) where
  abbrev R : Readings
  R = readings F s

  second_says : IsDrained R → IsSwept R → TurnSays F s (second_turn R (entering R R.second_price))
  second_says d w = by_entering (entering R R.second_price) (entering_is R R.second_price)
    where
      by_leaving : (q : ℕ) → Enters R R.second_price q → (o : Option ℕ) → IsLeaving R q o
          → TurnSays F s (enters Second q o)
      by_leaving q e None k = (d, w, e, k)
      by_leaving q e (Some r) k = (d, w, e, k)

      by_entering : (o : Option ℕ) → IsEntering R R.second_price o → TurnSays F s (second_turn R o)
      by_entering None e = (d, w, e)
      by_entering (Some q) e = by_leaving q e (leaving R q) (leaving_is R q)

  sweep_says : IsDrained R → TurnSays F s (sweep_turn R (swept_entry R))
  sweep_says d = by_entry (swept_entry R) (swept_entry_is R)
    where
      by_entry : (o : Option (ℕ × ℕ)) → IsSweep R o → TurnSays F s (sweep_turn R o)
      by_entry None w = second_says d w
      by_entry (Some found) w = (d, w)

  first_says : TurnSays F s (first_turn R (entering R R.first_price))
  first_says = by_entering (entering R R.first_price) (entering_is R R.first_price)
    where
      by_leaving : (q : ℕ) → Enters R R.first_price q → (o : Option ℕ) → IsLeaving R q o
          → TurnSays F s (enters First q o)
      by_leaving q e None k = absurd (first_phase_bounded F s q e k)
      by_leaving q e (Some r) k = (e, k)

      by_fit : (b : Bool) → HasNoNegativePrice R R.first_price → zero_ℚ ‹ℚ infeasibility F s
          → TurnSays F s (infeasible_turn b)
      by_fit true e k = (e, k)
      by_fit false e k = (e, k)

      by_test : HasNoNegativePrice R R.first_price → (b : Bool) → is_left_above R ≡ b
          → TurnSays F s (if b then infeasible_turn (multipliers_fit R)
          else sweep_turn R (swept_entry R))
      by_test e true k = by_fit (multipliers_fit R) e (infeasibility-above F s h.nonneg k)
      by_test e false k = sweep_says (drained_from_test R h.nonneg k)

      by_entering : (o : Option ℕ) → IsEntering R R.first_price o → TurnSays F s (first_turn R o)
      by_entering None e = by_test e (is_left_above R) refl
      by_entering (Some q) e = by_leaving q e (leaving R q) (leaving_is R q)

  -- the turn is right about the basis
  pub turn_says : TurnSays F s (turn F s)
  turn_says = by_phase s.phase h.phase
    where
      by_phase : (p : Phase) → StandsIn p R → TurnSays F s (turn_in p R)
      by_phase First k = first_says
      by_phase Sweep k = sweep_says k
      by_phase Second k = second_says k.0 k.1
