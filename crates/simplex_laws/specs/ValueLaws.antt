-- The point, the multipliers and the ray of a basis, over all columns.
use Rattle.std.specs.Prelude.{◌≡◌, ℕ, zero, suc, ◌+◌, ◌<◌, ◌≤◌, refl}
use Rattle.std.proofs.Common.{sym, ◌∙◌, ap, ap₂, arith}
use Rattle.ratio_core.specs.Rational.{Rational, zero_ℚ, ◌*ℚ◌, ◌+ℚ◌, ◌-ℚ◌}
use Rattle.rational_laws.specs.Field.{*ℚ--ℚ, +ℚ-neg_ℚ, +ℚ-zero}
use Rattle.rational_laws.specs.Ring.{as_expression, by_ring, ring₂}
use Rattle.simplex_form.specs.Basis.{BasisState, IsBasis, basic}
use Rattle.simplex_form.specs.Board.{entry, multiplier, point, price, ray, right_side}
use Rattle.simplex_form.specs.BoundedSums.{delta, sum_to}
use Rattle.simplex_form.specs.Form.{Form, column, weighted}
use Rattle.simplex_laws.specs.BoundedSumLaws.{same_or_other, sum_to--ℚ, sum_to_delta_right, sum_to_same}
use Rattle.simplex_laws.specs.PivotLaws.{products_regrouped}

-- values at the numbers of a list, summed with weights of all numbers, are the weights there
pub sum_to_placed : (m n : ℕ) (f w : ℕ → Rational) (at : ℕ → ℕ) → ((i : ℕ) → i < n → at i < m)
    → sum_to m (λ j. f j *ℚ sum_to n (λ i. delta (at i) j *ℚ w i)) ≡ sum_to n (λ i. f (at i) *ℚ w i)
sum_to_placed m n f w at h =
    products_regrouped m n f (λ j i. delta (at i) j) w
    ∙ sum_to_same n (λ i. sum_to m (λ j. f j *ℚ delta (at i) j) *ℚ w i) (λ i. f (at i) *ℚ w i)
    (λ i b. ap (λ x. x *ℚ w i) (sum_to_delta_right m (at i) f (h i b)))

-- terms that are 0 from a on may be left out
pub sum_to_shorter : (n a : ℕ) (f : ℕ → Rational) → a ≤ n → ((k : ℕ) → a ≤ k → k < n → f k ≡ zero_ℚ)
    → sum_to n f ≡ sum_to a f
sum_to_shorter zero a f h e = ap (λ k. sum_to k f) (zero_lem a h)
  where
    zero_lem : (a : ℕ) → a ≤ 0 → 0 ≡ a
    zero_lem a h = omega arith
sum_to_shorter (suc n) a f h e =
    same_or_other (sum_to (suc n) f ≡ sum_to a f) a (suc n) (λ q. ap (λ k. sum_to k f) (sym q))
    (λ m.
    ap₂ ◌+ℚ◌ (sum_to_shorter n a f (omega (arith, m)) (λ k c d. e k c (omega arith)))
    (e n (omega (arith, m)) (omega arith)) ∙ +ℚ-zero (sum_to a f))

module _ (F : Form) (s : BasisState) (basis : IsBasis F s) where
  -- weights of the columns at the point are the basic weights at the right sides
  pub weighted-point : (f : ℕ → Rational)
      → sum_to (F.reals + F.rows) (λ j. f j *ℚ point F s j)
      ≡ sum_to F.rows (λ i. f (basic s i) *ℚ right_side F s i)
  weighted-point f =
      sum_to_placed (F.reals + F.rows) F.rows f (right_side F s) (basic s) basis.within

  -- the point meets the equations
  pub point_meets : (k : ℕ) → k < F.rows
      → sum_to (F.reals + F.rows) (λ j. column F j k *ℚ point F s j) ≡ F.right k
  point_meets k b = weighted-point (λ j. column F j k) ∙ basis.inverse.spans F.right k b

  -- the multipliers weight a vector as the basic costs weight its board column
  pub weighted-multiplier : (cost v : ℕ → Rational)
      → weighted F (multiplier F s cost) v
      ≡ sum_to F.rows (λ i. cost (basic s i) *ℚ sum_to F.rows (λ k. s.inverse i k *ℚ v k))
  weighted-multiplier cost v =
      sym (products_regrouped F.rows F.rows (λ i. cost (basic s i)) s.inverse v)

  -- a price is the cost without what the multipliers make of the column
  pub price_by_multipliers : (cost : ℕ → Rational) (j : ℕ)
      → price F s cost j ≡ cost j -ℚ weighted F (multiplier F s cost) (column F j)
  price_by_multipliers cost j = ap (λ x. cost j -ℚ x) (sym (weighted-multiplier cost (column F j)))

  -- a multiplier is the artificial column's cost without its price
  pub multiplier_by_price : (cost : ℕ → Rational) (j k : ℕ) → k < F.rows
      → ((i : ℕ) → column F j i ≡ delta k i) → multiplier F s cost k ≡ cost j -ℚ price F s cost j
  multiplier_by_price cost j k b unit =
      sym (sum_to_delta_right F.rows k (multiplier F s cost) b)
      ∙ sum_to_same F.rows (λ i. multiplier F s cost i *ℚ delta k i)
      (λ i. multiplier F s cost i
      *ℚ column F j i) (λ i _. ap (λ x. multiplier F s cost i *ℚ x) (sym (unit i)))
      ∙ back_lem (cost j) (weighted F (multiplier F s cost) (column F j))
      ∙ ap (λ x. cost j -ℚ x) (sym (price_by_multipliers cost j))
    where
      back_lem : (c w : Rational) → w ≡ c -ℚ (c -ℚ w)
      back_lem = ring₂ _ (λ ρ. simp as_expression (by_ring ρ _ _ refl))

  -- the multipliers make of the right sides what the point costs
  pub equal_costs : (cost : ℕ → Rational)
      → weighted F (multiplier F s cost) F.right
      ≡ sum_to (F.reals + F.rows) (λ j. cost j *ℚ point F s j)
  equal_costs cost = weighted-multiplier cost F.right ∙ sym (weighted-point cost)

  -- weights of the columns along the ray
  pub weighted-ray : (f : ℕ → Rational) (q : ℕ) → q < F.reals + F.rows
      → sum_to (F.reals + F.rows) (λ j. f j *ℚ ray F s q j)
      ≡ f q -ℚ sum_to F.rows (λ i. f (basic s i) *ℚ entry F s q i)
  weighted-ray f q b =
      sum_to_same (F.reals + F.rows) (λ j. f j *ℚ ray F s q j)
      (λ j. f j *ℚ delta q j -ℚ f j *ℚ placed j) (λ j _. *ℚ--ℚ (f j) (delta q j) (placed j))
      ∙ sum_to--ℚ (F.reals + F.rows) (λ j. f j *ℚ delta q j) (λ j. f j *ℚ placed j)
      ∙ ap₂ ◌-ℚ◌ (sum_to_delta_right (F.reals + F.rows) q f b)
      (sum_to_placed (F.reals + F.rows) F.rows f (entry F s q) (basic s) basis.within)
    where
      placed : ℕ → Rational
      placed j = sum_to F.rows (λ i. delta (basic s i) j *ℚ entry F s q i)

  -- along the ray the equations' left sides stay
  pub ray_stays : (q k : ℕ) → q < F.reals + F.rows → k < F.rows
      → sum_to (F.reals + F.rows) (λ j. column F j k *ℚ ray F s q j) ≡ zero_ℚ
  ray_stays q k b c =
      weighted-ray (λ j. column F j k) q b
      ∙ ap (λ x. column F q k -ℚ x) (basis.inverse.spans (column F q) k c)
      ∙ +ℚ-neg_ℚ (column F q k)

  -- and the cost falls by the price
  pub ray_cost : (cost : ℕ → Rational) (q : ℕ) → q < F.reals + F.rows
      → sum_to (F.reals + F.rows) (λ j. cost j *ℚ ray F s q j) ≡ price F s cost q
  ray_cost cost q b = weighted-ray cost q b
