-- The identity of prices: what two bases of a form make of one vector, and so of one column's price
-- and of the point's costs.
use Rattle.std.specs.Prelude.{◌≡◌, ℕ, ◌<◌, refl}
use Rattle.std.proofs.Common.{sym, ◌∙◌, ap}
use Rattle.ratio_core.specs.Rational.{Rational, zero_ℚ, ◌*ℚ◌, ◌+ℚ◌, ◌-ℚ◌}
use Rattle.rational_laws.specs.Field.{zero-*ℚ, zero-+ℚ}
use Rattle.rational_laws.specs.Ring.{as_expression, by_ring, ring₂, ring₃}
use Rattle.simplex_form.specs.Basis.{BasisState, IsBasis, basic, times}
use Rattle.simplex_form.specs.Board.{entry, multiplier, price, right_side}
use Rattle.simplex_form.specs.BoundedSums.{sum_to}
use Rattle.simplex_form.specs.Form.{Form, column, weighted}
use Rattle.simplex_laws.specs.BoundedSumLaws.{sum_to-+ℚ, sum_to_same, sum_to_zeros}
use Rattle.simplex_laws.specs.PivotLaws.{products_regrouped}
use Rattle.simplex_laws.specs.ValueLaws.{price_by_multipliers, weighted-multiplier}

-- what the point costs
abbrev pub value : Form → (ℕ → Rational) → BasisState → Rational
value F cost s = sum_to F.rows (λ i. cost (basic s i) *ℚ right_side F s i)

module _ (F : Form) (s t : BasisState) (left : IsBasis F s) (right : IsBasis F t)
    (cost : ℕ → Rational) where
  back_lem : (c w : Rational) → c ≡ (c -ℚ w) +ℚ w
  back_lem = ring₂ _ (λ ρ. simp as_expression (by_ring ρ _ _ refl))

  split_lem : (c p w x : Rational) → c ≡ p +ℚ w → c *ℚ x ≡ p *ℚ x +ℚ w *ℚ x
  split_lem c p w x e = ap (λ y. y *ℚ x) e ∙ spread p w x
    where
      spread : (p w x : Rational) → (p +ℚ w) *ℚ x ≡ p *ℚ x +ℚ w *ℚ x
      spread = ring₃ _ (λ ρ. simp as_expression (by_ring ρ _ _ refl))

  cost_by_price : (j : ℕ)
      → cost j ≡ price F s cost j +ℚ weighted F (multiplier F s cost) (column F j)
  cost_by_price j =
      back_lem (cost j) (weighted F (multiplier F s cost) (column F j))
      ∙ ap (λ x. x +ℚ weighted F (multiplier F s cost) (column F j))
      (sym (price_by_multipliers F s left cost j))

  -- the multipliers of s weight the basic columns of t as they weight what these make up
  multipliers_span : (v : ℕ → Rational)
      → sum_to F.rows (λ i. weighted F (multiplier F s cost) (column F (basic t i))
      *ℚ times F.rows t.inverse v i) ≡ weighted F (multiplier F s cost) v
  multipliers_span v =
      sym (products_regrouped F.rows F.rows (multiplier F s cost)
      (λ k i. column F (basic t i) k) (times F.rows t.inverse v))
      ∙ sum_to_same F.rows (λ k. multiplier F s cost k
      *ℚ sum_to F.rows (λ i. column F (basic t i) k *ℚ times F.rows t.inverse v i))
      (λ k. multiplier F s cost k *ℚ v k)
      (λ k b. ap (λ x. multiplier F s cost k *ℚ x) (right.inverse.spans v k b))

  -- what a vector costs at t is what the prices at s make of it, and what it costs at s
  pub exchanged : (v : ℕ → Rational)
      → sum_to F.rows (λ i. cost (basic t i) *ℚ times F.rows t.inverse v i)
      ≡ sum_to F.rows (λ i. price F s cost (basic t i) *ℚ times F.rows t.inverse v i)
      +ℚ sum_to F.rows (λ i. cost (basic s i) *ℚ times F.rows s.inverse v i)
  exchanged v =
      sum_to_same F.rows (λ i. cost (basic t i) *ℚ times F.rows t.inverse v i)
      (λ i. price F s cost (basic t i) *ℚ times F.rows t.inverse v i
      +ℚ weighted F (multiplier F s cost) (column F (basic t i)) *ℚ times F.rows t.inverse v i)
      (λ i _. split_lem (cost (basic t i)) (price F s cost (basic t i))
      (weighted F (multiplier F s cost) (column F (basic t i))) (times F.rows t.inverse v i)
      (cost_by_price (basic t i)))
      ∙ sum_to-+ℚ F.rows (λ i. price F s cost (basic t i) *ℚ times F.rows t.inverse v i)
      (λ i. weighted F (multiplier F s cost) (column F (basic t i)) *ℚ times F.rows t.inverse v i)
      ∙ ap (λ x. sum_to F.rows (λ i. price F s cost (basic t i) *ℚ times F.rows t.inverse v i)
      +ℚ x) (multipliers_span v ∙ weighted-multiplier F s left cost v)

  -- the price of a column at t is its price at s, without what the prices at s make of its entries
  pub price-exchanged : (q : ℕ)
      → price F t cost q
      ≡ price F s cost q -ℚ sum_to F.rows (λ i. price F s cost (basic t i) *ℚ entry F t q i)
  price-exchanged q =
      ap (λ x. cost q -ℚ x) (exchanged (column F q))
      ∙ regroup_lem (cost q)
      (sum_to F.rows (λ i. price F s cost (basic t i) *ℚ entry F t q i))
      (sum_to F.rows (λ i. cost (basic s i) *ℚ entry F s q i))
    where
      regroup_lem : (c p w : Rational) → c -ℚ (p +ℚ w) ≡ (c -ℚ w) -ℚ p
      regroup_lem = ring₃ _ (λ ρ. simp as_expression (by_ring ρ _ _ refl))

  -- where the basic columns of t have the price 0 at s, the two points cost the same
  pub value-same : ((i : ℕ) → i < F.rows → price F s cost (basic t i) ≡ zero_ℚ)
      → value F cost t ≡ value F cost s
  value-same none =
      exchanged F.right
      ∙ ap (λ x. x +ℚ value F cost s)
      (sum_to_zeros F.rows (λ i. price F s cost (basic t i) *ℚ right_side F t i)
      (λ i b. ap (λ x. x *ℚ right_side F t i) (none i b) ∙ zero-*ℚ (right_side F t i)))
      ∙ zero-+ℚ (value F cost s)
