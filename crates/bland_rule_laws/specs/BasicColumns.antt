-- The basic columns of a state: they differ, and their prices are 0.
use Rattle.std.specs.Prelude.{◌≡◌, ℕ, ◌<◌, Bool, true, false, nat_eq, refl}
use Rattle.std.specs.List.{Contains}
use Rattle.std.proofs.Common.{sym, ◌∙◌, ap, subst, true≢false}
use Rattle.std.proofs.lemmas.Bool.{eq-eqb, eqb-true}
use Rattle.std.proofs.lemmas.Grind.{get_or_default_zero}
use Rattle.std.proofs.lemmas.List.Elements.{Contains-get_or}
use Rattle.ratio_core.specs.Rational.{Rational, zero_ℚ, ◌*ℚ◌, ◌-ℚ◌}
use Rattle.rational_laws.specs.Field.{+ℚ-neg_ℚ, one_not_zero}
use Rattle.simplex_form.specs.Basis.{BasisState, IsBasis, basic}
use Rattle.simplex_form.specs.Board.{entry, price}
use Rattle.simplex_form.specs.BoundedSums.{delta}
use Rattle.simplex_form.specs.Form.{Form}
use Rattle.simplex_form.specs.Search.{some_below}
use Rattle.simplex_laws.specs.BoundedSumLaws.{delta_other, delta_same, delta_sym, same_or_other, sum_to_delta_right, sum_to_same}
use Rattle.simplex_laws.specs.SearchLaws.{some_below_false, some_below_true}

-- whether column j is basic
abbrev pub is_basic : Form → BasisState → ℕ → Bool
is_basic F s j = some_below F.rows (λ i. nat_eq (basic s i) j)

module _ (F : Form) (s : BasisState) (j : ℕ) where
  -- the row of a basic column
  pub basic_row : is_basic F s j ≡ true → (i : ℕ) × (i < F.rows) × (basic s i ≡ j)
  basic_row e =
      let found : (i : ℕ) × (i < F.rows) × (nat_eq (basic s i) j ≡ true) =
      some_below_true F.rows (λ i. nat_eq (basic s i) j) e in
      (found.0, found.1, eqb-true (basic s found.0) j found.2)

  pub basic_if : (i : ℕ) → i < F.rows → basic s i ≡ j → is_basic F s j ≡ true
  basic_if i b e = by_test (is_basic F s j) refl
    where
      by_test : (v : Bool) → is_basic F s j ≡ v → is_basic F s j ≡ true
      by_test true h = h
      by_test false h = absurd (true≢false (sym (eq-eqb (basic s i) j e)
          ∙ some_below_false F.rows (λ k. nat_eq (basic s k) j) h i b))

  pub not_basic_if : ((i : ℕ) → i < F.rows → ¬ (basic s i ≡ j)) → is_basic F s j ≡ false
  not_basic_if none = by_test (is_basic F s j) refl
    where
      by_test : (v : Bool) → is_basic F s j ≡ v → is_basic F s j ≡ false
      by_test true h =
          let found : (i : ℕ) × (i < F.rows) × (basic s i ≡ j) = basic_row h
          in absurd (none found.0 found.1 found.2)
      by_test false h = h

module _ (F : Form) (s : BasisState) (basis : IsBasis F s) where
  -- two rows have two basic columns
  pub basic_distinct : (i k : ℕ) → i < F.rows → k < F.rows → basic s i ≡ basic s k → i ≡ k
  basic_distinct i k b c e =
      same_or_other (i ≡ k) i k (λ q. q)
      (λ n. absurd (one_not_zero (sym (delta_same i) ∙ sym (basis.inverse.units i i b b)
      ∙ ap (λ j. entry F s j i) e ∙ basis.inverse.units i k b c ∙ delta_other i k n)))

  -- the price of a basic column is 0
  pub price-basic : (cost : ℕ → Rational) (k : ℕ) → k < F.rows
      → price F s cost (basic s k) ≡ zero_ℚ
  price-basic cost k b =
      ap (λ x. cost (basic s k) -ℚ x)
      (sum_to_same F.rows (λ i. cost (basic s i) *ℚ entry F s (basic s k) i)
      (λ i. cost (basic s i) *ℚ delta k i) (λ i c. ap (λ x. cost (basic s i) *ℚ x)
      (basis.inverse.units i k c b ∙ delta_sym i k))
      ∙ sum_to_delta_right F.rows k (λ i. cost (basic s i)) b)
      ∙ +ℚ-neg_ℚ (cost (basic s k))

  -- the same by the test
  pub price-is_basic : (cost : ℕ → Rational) (j : ℕ) → is_basic F s j ≡ true
      → price F s cost j ≡ zero_ℚ
  price-is_basic cost j e =
      let found : (i : ℕ) × (i < F.rows) × (basic s i ≡ j) = basic_row F s j e in
      ap (price F s cost) (sym found.2) ∙ price-basic cost found.0 found.1

  -- ---- as the list's elements

  pub Contains-basic : (j : ℕ) → is_basic F s j ≡ true → Contains s.basis j
  Contains-basic j e =
      let found : (i : ℕ) × (i < F.rows) × (basic s i ≡ j) = basic_row F s j e in
      subst (Contains s.basis) found.2
      (Contains-get_or s.basis found.0 0 (subst (λ n. found.0 < n) (sym basis.long) found.1))

  pub basic-Contains : (j : ℕ) → Contains s.basis j → is_basic F s j ≡ true
  basic-Contains j h =
      basic_if F s j h.0 (subst (λ n. h.0 < n) basis.long h.1)
      (sym (get_or_default_zero s.basis h.0 j h.1) ∙ h.2)
