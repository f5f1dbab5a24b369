-- A basis determines its board: so a state says no more than its basis and phase.
use Rattle.std.specs.Prelude.{◌≡◌, ℕ, ◌<◌, slice_index}
use Rattle.std.proofs.Common.{ap, subst, ◌∙◌}
use Rattle.ratio_core.specs.Rational.{Rational, ◌*ℚ◌, ◌-ℚ◌}
use Rattle.simplex_form.specs.Basis.{BasisState, IsBasis, IsInverse, basic, times}
use Rattle.simplex_form.specs.Board.{entry, price, right_side}
use Rattle.simplex_form.specs.Form.{Form, column}
use Rattle.simplex_laws.specs.BoundedSumLaws.{sum_to_same}
use Rattle.simplex_laws.specs.InverseLaws.{inverse-unique}

module _ (F : Form) (s t : BasisState) (left : IsBasis F s) (right : IsBasis F t)
    (same : s.basis ≡ t.basis) where
  -- row i of the one inverse times a vector is that of the other
  pub times-determined : (v : ℕ → Rational) (i : ℕ) → i < F.rows
      → times F.rows s.inverse v i ≡ times F.rows t.inverse v i
  times-determined v i b =
      inverse-unique F.rows (column F) (basic t) s.inverse t.inverse
      (subst (λ basis. IsInverse F.rows (column F) (slice_index basis) s.inverse) same
      left.inverse) right.inverse v i b

  pub entry-determined : (j i : ℕ) → i < F.rows → entry F s j i ≡ entry F t j i
  entry-determined j i b = times-determined (column F j) i b

  pub right_side-determined : (i : ℕ) → i < F.rows → right_side F s i ≡ right_side F t i
  right_side-determined i b = times-determined F.right i b

  pub price-determined : (cost : ℕ → Rational) (j : ℕ) → price F s cost j ≡ price F t cost j
  price-determined cost j =
      ap (λ x. cost j -ℚ x)
      (sum_to_same F.rows (λ i. cost (basic s i) *ℚ entry F s j i)
      (λ i. cost (basic t i)
      *ℚ entry F t j i) (λ i b. ap (λ x. cost (basic s i) *ℚ x) (entry-determined j i b)
      ∙ ap (λ basis. cost (slice_index basis i) *ℚ entry F t j i) same))
