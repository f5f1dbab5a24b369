-- The trail from its start: what stands at each basis, and that every end that is reached is right.
use Rattle.std.specs.Prelude.{◌≡◌, ℕ, zero, suc, ◌+◌, ◌<◌, ◌≤◌, Bool, true, false, List, [], ◌∷◌, if◌then◌else◌, length, Some, slice_get, refl}
use Rattle.std.proofs.Common.{sym, ◌∙◌, ap, ap₂, arith, subst}
use Rattle.std.proofs.lemmas.Bool.{cond-true}
use Rattle.std.proofs.lemmas.List.FromFn.{get_or-range_with_len, length-range_with_len}
use Rattle.ratio_core.specs.Rational.{Rational, neg_ℚ, one_ℚ, zero_ℚ, ◌*ℚ◌, ◌+ℚ◌, ◌-ℚ◌, ◌≤ℚ◌}
use Rattle.rational_laws.specs.Field.{*ℚ_comm, +ℚ-neg_ℚ, +ℚ-zero, neg_ℚ-zero, one-*ℚ, zero-*ℚ, zero-+ℚ}
use Rattle.simplex_form.specs.Basis.{BasisState, IsBasis, IsInverse, basic, start, times}
use Rattle.simplex_form.specs.Board.{entry, price, right_side}
use Rattle.simplex_form.specs.BoundedSums.{delta, sum_to}
use Rattle.simplex_form.specs.Fit.{start_fits}
use Rattle.simplex_form.specs.Form.{Form, IsStandard, column, first_cost, second_cost}
use Rattle.simplex_form.specs.TrailOutcome.{HasTrail}
use Rattle.simplex_form.specs.Standing.{HasRightAnswer, StandsAtBasis}
use Rattle.simplex_form.specs.Trail.{goes_on, next, reached, stop, trail, trail_from}
use Rattle.simplex_form.specs.Turns.{turn}
use Rattle.simplex_form.specs.declared.turn.Phase.{Phase}
use Rattle.simplex_laws.specs.AgreementLaws.{artificial_column}
use Rattle.simplex_laws.specs.BoundedSumLaws.{delta_sym, sum_to_delta, sum_to_same, sum_to_zero}
use Rattle.simplex_laws.specs.EndLaws.{end_right}
use Rattle.simplex_laws.specs.StandingLaws.{after_stands}
use Rattle.simplex_laws.specs.TurnLaws.{column_real, column_unit, first_cost_artificial, first_cost_real, past_reals, second_cost_artificial, turn_says}

-- ---- the start

-- the unit matrix leaves a vector as it is
pub times_unit : (n : ℕ) (v : ℕ → Rational) (i : ℕ) → i < n → times n delta v i ≡ v i
times_unit n v i b = sum_to_delta n i v b

module _ (F : Form) where
  pub basic-start : (i : ℕ) → i < F.rows → basic (start F) i ≡ F.reals + i
  unfolding start
  basic-start i b = get_or-range_with_len F.reals F.rows i 0 b

  start_column : (i k : ℕ) → i < F.rows → column F (basic (start F) i) k ≡ delta i k
  start_column i k b = ap (λ j. column F j k) (basic-start i b) ∙ column_unit F i k

  start_inverse_lem : IsInverse F.rows (column F) (basic (start F)) delta
  start_inverse_lem = record {
    units = λ i k b c. times_unit F.rows (column F (basic (start F) k)) i b ∙ start_column k i c
        ∙ delta_sym k i;
    spans = λ v k b. sum_to_same F.rows (λ i. column F (basic (start F) i) k
        *ℚ times F.rows delta v i) (λ i. delta k i *ℚ v i)
        (λ i c. ap₂ ◌*ℚ◌ (start_column i k c ∙ delta_sym i k) (times_unit F.rows v i c))
        ∙ sum_to_delta F.rows k v b;
  }

  start_inverse : IsInverse F.rows (column F) (basic (start F)) delta
      → IsInverse F.rows (column F) (basic (start F)) (start F).inverse
  unfolding start
  start_inverse h = h

  start_long : length (start F).basis ≡ F.rows
  unfolding start
  start_long = length-range_with_len F.reals F.rows

  pub start_basis : IsBasis F (start F)
  start_basis = record {
    long = start_long;
    within = λ i b. subst (λ j. j < F.reals + F.rows) (sym (basic-start i b))
        (artificial_column F.reals F.rows i b);
    inverse = start_inverse start_inverse_lem;
  }

  pub right_side-start : (i : ℕ) → i < F.rows → right_side F (start F) i ≡ F.right i
  unfolding start
  right_side-start i b = times_unit F.rows F.right i b

  -- at the start the entries are the original columns
  pub entry-start : (j i : ℕ) → i < F.rows → entry F (start F) j i ≡ column F j i
  unfolding start
  entry-start j i b = times_unit F.rows (column F j) i b

  start_price : (cost : ℕ → Rational) (j : ℕ) (f : ℕ → Rational)
      → ((i : ℕ) → i < F.rows → cost (F.reals + i) *ℚ column F j i ≡ f i)
      → price F (start F) cost j ≡ cost j -ℚ sum_to F.rows f
  start_price cost j f e =
      ap (λ x. cost j -ℚ x)
      (sum_to_same F.rows (λ i. cost (basic (start F) i) *ℚ entry F (start F) j i) f
      (λ i b. ap₂ ◌*ℚ◌ (ap cost (basic-start i b)) (entry-start j i b) ∙ e i b))

  -- the first price of a real column is minus the sum of its entries
  pub first_price-start_real : (j : ℕ) → j < F.reals
      → price F (start F) (first_cost F) j ≡ neg_ℚ (sum_to F.rows (λ i. F.matrix i j))
  first_price-start_real j b =
      start_price (first_cost F) j (λ i. F.matrix i j)
      (λ i _. ap₂ ◌*ℚ◌ (first_cost_artificial F (F.reals + i) (past_reals F.reals i))
      (column_real F j i b) ∙ one-*ℚ (F.matrix i j))
      ∙ ap (λ x. x -ℚ sum_to F.rows (λ i. F.matrix i j)) (first_cost_real F j b)
      ∙ zero-+ℚ (neg_ℚ (sum_to F.rows (λ i. F.matrix i j)))

  -- and that of an artificial one is 0
  pub first_price-start_artificial : (k : ℕ) → k < F.rows
      → price F (start F) (first_cost F) (F.reals + k) ≡ zero_ℚ
  first_price-start_artificial k b =
      start_price (first_cost F) (F.reals + k) (λ i. delta k i *ℚ one_ℚ)
      (λ i c. ap₂ ◌*ℚ◌ (first_cost_artificial F (F.reals + i) (past_reals F.reals i))
      (sym (ap (λ j. column F j i) (basic-start k b)) ∙ start_column k i b)
      ∙ *ℚ_comm one_ℚ (delta k i))
      ∙ ap₂ ◌-ℚ◌ (first_cost_artificial F (F.reals + k) (past_reals F.reals k))
      (sum_to_delta F.rows k (λ _. one_ℚ) b)
      ∙ +ℚ-neg_ℚ one_ℚ

  -- the second prices are the second costs
  pub second_price-start : (j : ℕ) → price F (start F) (second_cost F) j ≡ second_cost F j
  second_price-start j =
      start_price (second_cost F) j (λ _. zero_ℚ) (λ i _. ap (λ x. x *ℚ column F j i)
      (second_cost_artificial F (F.reals + i) (past_reals F.reals i)) ∙ zero-*ℚ (column F j i))
      ∙ ap (λ x. second_cost F j -ℚ x) (sum_to_zero F.rows)
      ∙ ap (λ x. second_cost F j +ℚ x) neg_ℚ-zero ∙ +ℚ-zero (second_cost F j)

  pub start_stands : IsStandard F → StandsAtBasis F (start F)
  unfolding start
  start_stands h = record {
    basis = start_basis;
    nonneg = λ i b. subst (λ x. zero_ℚ ≤ℚ x) (sym (right_side-start i b)) (h i b);
    phase = tt;
  }

  -- ---- the trail

  pub reached_stands : IsStandard F → (n : ℕ) → StandsAtBasis F (reached F n)
  reached_stands h zero = start_stands h
  reached_stands h (suc n) =
      let now : StandsAtBasis F (reached F n) = reached_stands h n in
      after_stands F (reached F n) now (turn F (reached F n)) (turn_says F (reached F n) now)

  -- whichever end is reached, after however many steps, its answer is right
  pub answers_right : IsStandard F → (n : ℕ) → HasRightAnswer F (reached F n) (turn F (reached F n))
  answers_right h n =
      let now : StandsAtBasis F (reached F n) = reached_stands h n in
      end_right F (reached F n) now (turn F (reached F n)) (turn_says F (reached F n) now)

  -- ---- the trail's length

  reached_from : ℕ → BasisState → BasisState
  reached_from zero s = s
  reached_from (suc n) s = next F (reached_from n s)

  reached_from-start : (n : ℕ) → reached_from n (start F) ≡ reached F n
  unfolding reached_from
  reached_from-start zero = refl
  reached_from-start (suc n) = ap (next F) (reached_from-start n)

  reached_from-next : (n : ℕ) (s : BasisState) → reached_from n (next F s) ≡ reached_from (suc n) s
  unfolding reached_from
  reached_from-next zero s = refl
  reached_from-next (suc n) s = ap (next F) (reached_from-next n s)

  -- a trail with a pivot has one at its first basis
  first_goes_on : (n : ℕ) (s : BasisState) → length (trail_from F (suc n) s) ≡ suc (suc n)
      → (goes_on F s ≡ true) × (length (trail_from F n (next F s)) ≡ suc n)
  first_goes_on n s e = by_test (goes_on F s) refl e
    where
      by_test : (b : Bool) → goes_on F s ≡ b
          → length (stop s ∷ (if b then trail_from F n (next F s) else [])) ≡ suc (suc n)
          → (goes_on F s ≡ true) × (length (trail_from F n (next F s)) ≡ suc n)
      by_test true g h = (g, omega (arith, h))
      by_test false g h = absurd (omega (arith, h))

  one_more : (n : ℕ) (s : BasisState) → length (trail_from F n s) ≡ suc n
      → goes_on F (reached_from n s) ≡ true → length (trail_from F (suc n) s) ≡ suc (suc n)
  unfolding reached_from
  one_more zero s e g =
      ap (λ b. length (stop s ∷ (if b then trail_from F zero (next F s) else []))) g
  one_more (suc n) s e g =
      let first : (goes_on F s ≡ true) × (length (trail_from F n (next F s)) ≡ suc n) =
      first_goes_on n s e in
      let rest : length (trail_from F (suc n) (next F s)) ≡ suc (suc n) =
      one_more n (next F s) first.1 (ap (goes_on F) (reached_from-next n s) ∙ g) in
      ap (λ b. length (stop s ∷ (if b then trail_from F (suc n) (next F s) else []))) first.0
      ∙ longer_lem (trail_from F (suc n) (next F s)) (suc (suc n)) rest
    where
      longer_lem : (xs : List (Phase × List ℕ)) (n : ℕ) → length xs ≡ n
          → length (stop s ∷ xs) ≡ suc n
      longer_lem xs n e = omega (arith, e)

  each_goes_on : (n k : ℕ) (s : BasisState) → length (trail_from F n s) ≡ suc n → k < n
      → goes_on F (reached_from k s) ≡ true
  unfolding reached_from
  each_goes_on zero k s e b = absurd (omega (arith, b))
  each_goes_on (suc n) zero s e b = (first_goes_on n s e).0
  each_goes_on (suc n) (suc k) s e b =
      ap (goes_on F) (sym (reached_from-next k s))
      ∙ each_goes_on n k (next F s) (first_goes_on n s e).1 (omega (arith, b))

  each_stop : (n k : ℕ) (s : BasisState) → length (trail_from F n s) ≡ suc n → k ≤ n
      → slice_get (trail_from F n s) k ≡ Some (stop (reached_from k s))
  unfolding reached_from
  each_stop zero zero s e b = refl
  each_stop zero (suc k) s e b = absurd (omega (arith, b))
  each_stop (suc n) zero s e b = refl
  each_stop (suc n) (suc k) s e b =
      let first : (goes_on F s ≡ true) × (length (trail_from F n (next F s)) ≡ suc n) =
      first_goes_on n s e in
      ap (λ b. slice_get (stop s ∷ (if b then trail_from F n (next F s) else [])) (suc k)) first.0
      ∙ each_stop n k (next F s) first.1 (omega (arith, b))
      ∙ ap (λ t. Some (stop t)) (reached_from-next k s)

  from_start : (n : ℕ) → HasTrail F n → length (trail_from F n (start F)) ≡ suc n
  from_start n h = ap length (sym (cond-true (start_fits F) (trail_from F n (start F))
      (stop (start F) ∷ []) h.start_fits)) ∙ h.long

  -- the first basis is a trail where the start fits, and a basis that goes on makes a trail longer
  pub trail_start : start_fits F ≡ true → HasTrail F 0
  trail_start e = record {
    start_fits = e;
    long = ap length (cond-true (start_fits F) (trail_from F 0 (start F)) (stop (start F) ∷ []) e);
  }

  pub trail_more : (n : ℕ) → HasTrail F n → goes_on F (reached F n) ≡ true → HasTrail F (suc n)
  trail_more n h g = record {
    start_fits = h.start_fits;
    long = ap length (cond-true (start_fits F) (trail_from F (suc n) (start F))
        (stop (start F) ∷ []) h.start_fits)
        ∙ one_more n (start F) (from_start n h) (ap (goes_on F) (reached_from-start n) ∙ g);
  }

  -- each basis of a trail but its last goes on
  pub trail-goes_on : (n k : ℕ) → HasTrail F n → k < n → goes_on F (reached F k) ≡ true
  trail-goes_on n k h b = ap (goes_on F) (sym (reached_from-start k))
      ∙ each_goes_on n k (start F) (from_start n h) b

  -- and each is that of as many steps
  pub trail-reached : (n k : ℕ) → HasTrail F n → k ≤ n
      → slice_get (trail F n) k ≡ Some (stop (reached F k))
  trail-reached n k h b =
      ap (λ l. slice_get l k) (cond-true (start_fits F) (trail_from F n (start F))
      (stop (start F) ∷ []) h.start_fits)
      ∙ each_stop n k (start F) (from_start n h) b ∙ ap (λ t. Some (stop t)) (reached_from-start k)
