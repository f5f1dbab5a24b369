-- Between two equal sets of basic columns every step is degenerate: no right side moves, and a row
-- with one that isn't 0 keeps its basic column.
use Rattle.std.specs.Prelude.{◌≡◌, ℕ, suc, ◌+◌, ◌<◌, ◌≤◌, refl}
use Rattle.std.proofs.Common.{sym, ◌∙◌, ap, arith}
use Rattle.ratio_core.specs.Rational.{Rational, zero_ℚ, ◌≤ℚ◌}
use Rattle.rational_laws.specs.Order.{≤ℚ_antisymm, ≤ℚ_from_≡, ≤ℚ_refl, ≤ℚ_trans}
use Rattle.simplex_form.specs.Basis.{BasisState, basic}
use Rattle.simplex_form.specs.Board.{right_side}
use Rattle.simplex_form.specs.Form.{Form}
use Rattle.simplex_form.specs.Standing.{StandsAtBasis}
use Rattle.bland_rule_laws.specs.BasicColumns.{basic_if, is_basic, price-is_basic}
use Rattle.bland_rule_laws.specs.Exchange.{value, value-same}
use Rattle.bland_rule_laws.specs.Sequences.{carried}
use Rattle.bland_rule_laws.specs.Steps.{IsStep, degenerate, never_dearer}

module _ (F : Form) (cost : ℕ → Rational) (S : ℕ → BasisState) (a b : ℕ)
    (stands : (k : ℕ) → StandsAtBasis F (S k))
    (step : (k : ℕ) → a ≤ k → k < b → IsStep F cost (S k) (S (suc k))) where
  value-falls : (x y : ℕ) → a ≤ x → x ≤ y → y ≤ b → value F cost (S y) ≤ℚ value F cost (S x)
  value-falls x y c d e =
      carried (λ k. value F cost (S k) ≤ℚ value F cost (S x)) x b
      (λ k g f h. ≤ℚ_trans (value F cost (S (suc k))) (value F cost (S k)) (value F cost (S x))
      (never_dearer F cost (S k) (S (suc k)) (stands k) (step k (omega (arith, c, g)) f)) h)
      x y (omega arith) d e (≤ℚ_refl (value F cost (S x)))

  module _ (ordered : a ≤ b)
      (same : (j : ℕ) → j < F.reals + F.rows → is_basic F (S a) j ≡ is_basic F (S b) j) where
    -- the two points cost the same
    value-ends : value F cost (S b) ≡ value F cost (S a)
    value-ends =
        value-same F (S a) (S b) (stands a).basis (stands b).basis cost
        (λ i c. price-is_basic F (S a) (stands a).basis cost (basic (S b) i)
        (same (basic (S b) i) ((stands b).basis.within i c)
        ∙ basic_if F (S b) (basic (S b) i) i c refl))

    value-stays : (k : ℕ) → a ≤ k → k < b → value F cost (S (suc k)) ≡ value F cost (S k)
    value-stays k c d =
        ≤ℚ_antisymm (value F cost (S (suc k))) (value F cost (S k))
        (value-falls k (suc k) c (omega arith) (omega (arith, d)))
        (≤ℚ_trans (value F cost (S k)) (value F cost (S a)) (value F cost (S (suc k)))
        (value-falls a k (omega arith) c (omega (arith, d)))
        (≤ℚ_trans (value F cost (S a)) (value F cost (S b)) (value F cost (S (suc k)))
        (≤ℚ_from_≡ (value F cost (S a)) (value F cost (S b)) (sym value-ends))
        (value-falls (suc k) b (omega (arith, c)) (omega (arith, d)) (omega arith))))

    -- each step has the ratio 0
    pub each_degenerate : (k : ℕ) (c : a ≤ k) (d : k < b)
        → right_side F (S k) (step k c d).moves.row ≡ zero_ℚ
    each_degenerate k c d =
        degenerate F cost (S k) (S (suc k)) (stands k) (step k c d) (value-stays k c d)

    -- no right side moves
    pub right_side-stays : (i k : ℕ) → a ≤ k → k ≤ b
        → right_side F (S k) i ≡ right_side F (S a) i
    right_side-stays i k c d =
        carried (λ n. right_side F (S n) i ≡ right_side F (S a) i) a b
        (λ n g f h. (step n g f).still (each_degenerate n g f) i ∙ h) a k (omega arith) c d refl

    -- a row whose right side isn't 0 keeps its basic column
    pub row-stays : (i : ℕ) → ¬ (right_side F (S a) i ≡ zero_ℚ) → (k : ℕ) → a ≤ k → k ≤ b
        → basic (S k) i ≡ basic (S a) i
    row-stays i m k c d =
        carried (λ n. basic (S n) i ≡ basic (S a) i) a b
        (λ n g f h. (step n g f).moves.off i
        (λ q. m (sym (right_side-stays i n g (omega (arith, f)))
        ∙ ap (right_side F (S n)) q ∙ each_degenerate n g f)) ∙ h) a k (omega arith) c d refl
