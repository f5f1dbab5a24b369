-- The board after a pivot, by row operations on the board before it.
use Rattle.std.specs.Prelude.{◌≡◌, ℕ, ◌+◌, ◌<◌, Bool, length, refl}
use Rattle.std.proofs.Common.{sym, ◌∙◌, ap, subst}
use Rattle.std.proofs.lemmas.List.{get_or-set_other, get_or-set_same, length-set}
use Rattle.ratio_core.specs.Rational.{Rational, inverse_ℚ, zero_ℚ, ◌*ℚ◌, ◌+ℚ◌, ◌-ℚ◌}
use Rattle.rational_laws.specs.Ring.{as_expression, by_ring, ring₄}
use Rattle.simplex_form.specs.Basis.{BasisState, IsBasis, IsInverse, basic, pivoted}
use Rattle.simplex_form.specs.Board.{entry, pivot, price, right_side}
use Rattle.simplex_form.specs.BoundedSums.{sum_to}
use Rattle.simplex_form.specs.Form.{Form, column, first_cost, second_cost}
use Rattle.simplex_form.specs.Readings.{Agrees, pivoted_readings, readings}
use Rattle.simplex_form.specs.declared.turn.Phase.{Phase}
use Rattle.simplex_laws.specs.BoundedSumLaws.{same_or_other, sum_to_same}
use Rattle.simplex_laws.specs.InverseLaws.{inverse_pivoted}
use Rattle.simplex_laws.specs.PivotLaws.{pivot-weighted, times-pivoted}

module _ (F : Form) (s : BasisState) (phase : Phase) (r q : ℕ) where
  -- ---- the basis

  pub basic-pivot_at : IsBasis F s → r < F.rows → basic (pivot F s phase r q) r ≡ q
  unfolding pivot
  basic-pivot_at basis b = get_or-set_same s.basis r q 0 (subst (λ n. r < n) (sym basis.long) b)

  pub basic-pivot_off : (i : ℕ) → ¬ (i ≡ r) → basic (pivot F s phase r q) i ≡ basic s i
  unfolding pivot
  basic-pivot_off i n = get_or-set_other s.basis r i q 0 n

  -- ---- the board

  pub entry-pivot : (j i : ℕ)
      → entry F (pivot F s phase r q) j i ≡ pivoted r (entry F s q) (entry F s j) i
  unfolding pivot
  entry-pivot j i = times-pivoted F.rows r (entry F s q) s.inverse (column F j) i

  pub right_side-pivot : (i : ℕ)
      → right_side F (pivot F s phase r q) i ≡ pivoted r (entry F s q) (right_side F s) i
  unfolding pivot
  right_side-pivot i = times-pivoted F.rows r (entry F s q) s.inverse F.right i

  -- what the basic columns cost changes by the entering column's price times the step
  pub cost-pivot : (cost w : ℕ → Rational) → IsBasis F s → r < F.rows → ¬ (entry F s q r ≡ zero_ℚ)
      → sum_to F.rows (λ i. cost (basic (pivot F s phase r q) i) *ℚ pivoted r (entry F s q) w i)
      ≡ sum_to F.rows (λ i. cost (basic s i) *ℚ w i)
      +ℚ price F s cost q *ℚ (w r *ℚ inverse_ℚ (entry F s q r))
  cost-pivot cost w basis b n =
      pivot-weighted F.rows r (entry F s q) w (λ i. cost (basic s i))
      (λ i. cost (basic (pivot F s phase r q) i)) b n (λ i c m. ap cost (basic-pivot_off i m))
      ∙ ap (λ j. sum_to F.rows (λ i. cost (basic s i) *ℚ w i)
      +ℚ (cost j -ℚ sum_to F.rows (λ i. cost (basic s i) *ℚ entry F s q i))
      *ℚ (w r *ℚ inverse_ℚ (entry F s q r))) (basic-pivot_at basis b)

  lowered_price : (c a p s : Rational) → c -ℚ (a +ℚ p *ℚ s) ≡ (c -ℚ a) -ℚ p *ℚ s
  lowered_price = ring₄ _ (λ ρ. simp as_expression (by_ring ρ _ _ refl))

  -- a cost row is lowered as any other row
  pub price-pivot : (cost : ℕ → Rational) (j : ℕ) → IsBasis F s → r < F.rows
      → ¬ (entry F s q r ≡ zero_ℚ)
      → price F (pivot F s phase r q) cost j
      ≡ price F s cost j -ℚ price F s cost q *ℚ (entry F s j r *ℚ inverse_ℚ (entry F s q r))
  price-pivot cost j basis b n =
      ap (λ x. cost j -ℚ x)
      (sum_to_same F.rows (λ i. cost (basic (pivot F s phase r q) i)
      *ℚ entry F (pivot F s phase r q) j i) (λ i. cost (basic (pivot F s phase r q) i)
      *ℚ pivoted r (entry F s q) (entry F s j) i) (λ i _. ap
      (λ x. cost (basic (pivot F s phase r q) i) *ℚ x) (entry-pivot j i))
      ∙ cost-pivot cost (entry F s j) basis b n)
      ∙ lowered_price (cost j) (sum_to F.rows (λ i. cost (basic s i) *ℚ entry F s j i))
      (price F s cost q) (entry F s j r *ℚ inverse_ℚ (entry F s q r))

  -- ---- the next basis

  inverse-pivot_lem : IsBasis F s → r < F.rows → ¬ (entry F s q r ≡ zero_ℚ)
      → IsInverse F.rows (column F) (basic (pivot F s phase r q))
      (λ i k. pivoted r (entry F s q) (λ row. s.inverse row k) i)
  inverse-pivot_lem basis b n =
      subst (λ j. IsInverse F.rows (column F) (basic (pivot F s phase r q))
      (λ i k. pivoted r (entry F s j) (λ row. s.inverse row k) i)) (basic-pivot_at basis b)
      (inverse_pivoted F.rows (column F) (basic s) (basic (pivot F s phase r q)) s.inverse r b
      (subst (λ j. ¬ (entry F s j r ≡ zero_ℚ)) (sym (basic-pivot_at basis b)) n)
      (λ i _ m. basic-pivot_off i m) basis.inverse)

  inverse-pivot : IsInverse F.rows (column F) (basic (pivot F s phase r q))
      (λ i k. pivoted r (entry F s q) (λ row. s.inverse row k) i)
      → IsInverse F.rows (column F) (basic (pivot F s phase r q)) (pivot F s phase r q).inverse
  unfolding pivot
  inverse-pivot h = h

  long-pivot : length (pivot F s phase r q).basis ≡ length s.basis
  unfolding pivot
  long-pivot = length-set s.basis r q

  -- a pivot on an entry that isn't 0 leads to a basis
  pub basis-pivot : IsBasis F s → r < F.rows → q < F.reals + F.rows → ¬ (entry F s q r ≡ zero_ℚ)
      → IsBasis F (pivot F s phase r q)
  basis-pivot basis b c n = record {
    long = long-pivot ∙ basis.long;
    within = λ i d. same_or_other (basic (pivot F s phase r q) i < F.reals + F.rows) i r
        (λ e. subst (λ k. basic (pivot F s phase r q) k < F.reals + F.rows) (sym e)
        (subst (λ j. j < F.reals + F.rows) (sym (basic-pivot_at basis b)) c))
        (λ m. subst (λ j. j < F.reals + F.rows) (sym (basic-pivot_off i m)) (basis.within i d));
    inverse = inverse-pivot (inverse-pivot_lem basis b n);
  }

  -- what is read at the next basis
  pub readings-pivot : (in_first : Bool) → IsBasis F s → r < F.rows → ¬ (entry F s q r ≡ zero_ℚ)
      → Agrees in_first (pivoted_readings r q (readings F s)) (readings F (pivot F s phase r q))
  unfolding pivot
  readings-pivot in_first basis b n = record {
    rows = refl;
    reals = refl;
    basis = refl;
    entries = λ i j _ _. sym (entry-pivot j i);
    rights = λ i _. sym (right_side-pivot i);
    first = λ _ j _. sym (price-pivot (first_cost F) j basis b n);
    second = λ j _. sym (price-pivot (second_cost F) j basis b n);
  }
