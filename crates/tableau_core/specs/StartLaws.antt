-- The numbers of a board at its start, as the code makes them.
use Rattle.std.specs.Prelude.{◌≡◌, ℕ, ◌+◌, ◌*◌, ◌-◌, ◌<◌, ◌≤◌}
use Rattle.std.proofs.Common.{sym, ◌∙◌, ap, arith}
use Rattle.std.proofs.lemmas.Nat.{mul-add-lt}
use Rattle.ratio_core.specs.Rational.{Rational, neg_ℚ, one_ℚ, zero_ℚ}
use Rattle.simplex_form.specs.Basis.{start}
use Rattle.simplex_form.specs.Board.{entry, price}
use Rattle.simplex_form.specs.BoundedSums.{delta, sum_to}
use Rattle.simplex_form.specs.Form.{Form, first_cost}
use Rattle.simplex_laws.specs.BoundedSumLaws.{delta_other, delta_same}
use Rattle.simplex_laws.specs.TrailLaws.{entry-start, first_price-start_artificial, first_price-start_real}
use Rattle.simplex_laws.specs.TurnLaws.{column_artificial, column_real}

-- the place of column j in row i, of m rows with c columns
pub place_within : (m c i j n : ℕ) → n ≡ m * c → i < m → j < c → i * c + j < n
place_within m c i j n e b d = omega (arith, e, mul-add-lt i c j m b d)

module _ (F : Form) (j i : ℕ) (x : Rational) (row : i < F.rows) where
  pub real-entry : j < F.reals → x ≡ F.matrix i j → x ≡ entry F (start F) j i
  real-entry b e = e ∙ sym (entry-start F j i row ∙ column_real F j i b)

  pub unit-entry : F.reals ≤ j → j - F.reals ≡ i → x ≡ one_ℚ → x ≡ entry F (start F) j i
  unit-entry b q e =
      e ∙ sym (entry-start F j i row ∙ column_artificial F j i b ∙ ap (λ k. delta k i) q
      ∙ delta_same i)

  pub zero-entry : F.reals ≤ j → ¬ (j - F.reals ≡ i) → x ≡ zero_ℚ → x ≡ entry F (start F) j i
  zero-entry b n e =
      e ∙ sym (entry-start F j i row ∙ column_artificial F j i b ∙ delta_other (j - F.reals) i n)

module _ (F : Form) (j : ℕ) where
  pub first-real : (x : Rational) → j < F.reals → x ≡ neg_ℚ (sum_to F.rows (λ i. F.matrix i j))
      → x ≡ price F (start F) (first_cost F) j
  first-real x b e = e ∙ sym (first_price-start_real F j b)

  pub first-artificial : F.reals ≤ j → j < F.reals + F.rows
      → price F (start F) (first_cost F) j ≡ zero_ℚ
  first-artificial b c =
      ap (price F (start F) (first_cost F)) (back_lem F.reals j b) ∙ first_price-start_artificial F
      (j - F.reals) (within_lem F.reals j F.rows b c)
    where
      back_lem : (c j : ℕ) → c ≤ j → j ≡ c + (j - c)
      back_lem c j h = omega (arith, h)

      within_lem : (c j m : ℕ) → c ≤ j → j < c + m → j - c < m
      within_lem c j m h k = omega (arith, h, k)
