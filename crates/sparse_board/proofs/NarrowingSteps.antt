-- Fractions that become whole numbers over a common denominator.
use Rattle.std.specs.Prelude.{◌≡◌, ℕ, ◌+◌, ◌<◌, ◌≤◌, ◌⊎◌, List, length, slice_index, ℤ, pos}
use Rattle.std.specs.Int.{◌∣◌}
use Rattle.std.proofs.Common.{inl, inr, sym, ◌∙◌, ap, ap₂, arith, subst}
use Rattle.std.proofs.lemmas.Nat.Gcd.{dvd_trans}
use Rattle.ratio_core.specs.Rational.{Rational, reduce}
use Rattle.rational_laws.specs.Over.{over-zero_ℚ}
use Rattle.simplex_laws.specs.BoundedSumLaws.{same_or_other}
use Rattle.tableau_core.specs.Row.{cell}
use Rattle.whole_rows.specs.declared.narrow_row.NarrowRow.{NarrowRow}
use Rattle.whole_rows.specs.Common.{IsCommon, over_is, over_num}
use Rattle.whole_rows.specs.Rows as whole
use Rattle.sparse_board.specs.declared.sparse_row.SparseRow.{SparseRow}
use Rattle.sparse_board.specs.Mixed.{IsDenominator}
use Rattle.sparse_board.specs.Numbers.{number_of, row_columns, row_values, width_of}
use Rattle.sparse_board.proofs.NumberLemmas.{number_at_place, number_missing, sought}

-- ---- a common denominator of the first n

pub denominator_none : (values : List Rational) → IsDenominator values 0 1
denominator_none values = record {
  above = omega arith;
  small = omega arith;
  divides = λ k b. absurd (omega (arith, b));
}

pub denominator_more : (values : List Rational) (n den more : ℕ) (value : Rational)
    → IsDenominator values n den → value ≡ cell values n → IsCommon den value more
    → IsDenominator values (n + 1) more
denominator_more values n den more value h is common = record {
  above = common.above;
  small = common.small;
  divides = λ k b. same_or_other ((cell values k).den ∣ more) k n
      (λ e. subst (λ v. v.den ∣ more) (is ∙ ap (cell values) (sym e)) common.right)
      (λ m. dvd_trans (cell values k).den (h.divides k (omega (arith, b, m))) common.left);
}

-- ---- the first n numbers are put

pub record IsFilledTo (wide : SparseRow) (old row : NarrowRow) (den n : ℕ) : Type 0 where
  pub over : row.den ≡ den
  pub width : whole.width_of row ≡ whole.width_of old
  pub put : (k : ℕ) → k < n → whole.numerator_of row (slice_index (row_columns wide) k)
      ≡ over_num (cell (row_values wide) k) den
  pub zeros : (j : ℕ) → j < width_of wide
      → ((k : ℕ) → k < n → ¬ (slice_index (row_columns wide) k ≡ j))
      → whole.numerator_of row j ≡ pos 0

pub filled_none : (wide : SparseRow) (old row : NarrowRow) (den : ℕ) → row.den ≡ den
    → whole.width_of row ≡ whole.width_of old → ((j : ℕ) → whole.numerator_of row j ≡ pos 0)
    → IsFilledTo wide old row den 0
filled_none wide old row den d w z = record {
  over = d;
  width = w;
  put = λ k c. absurd (omega (arith, c));
  zeros = λ j c n. z j;
}

module _ (wide : SparseRow) (old row next : NarrowRow) (den n column : ℕ) (m : ℤ)
    (h : IsFilledTo wide old row den n) (few : width_of wide ≤ whole.width_of old + 1)
    (b : n < length (row_columns wide)) (column_is : column ≡ slice_index (row_columns wide) n)
    (m_is : m ≡ over_num (cell (row_values wide) n) den) where
  at : ℕ
  at = slice_index (row_columns wide) n

  pub filled_more : next.den ≡ row.den → whole.width_of next ≡ whole.width_of row
      → whole.numerator_of next column ≡ m
      → ((k : ℕ) → k ≤ whole.width_of row → ¬ (k ≡ column)
      → whole.numerator_of next k ≡ whole.numerator_of row k)
      → IsFilledTo wide old next den (n + 1)
  filled_more same width here elsewhere = record {
    over = same ∙ h.over;
    width = width ∙ h.width;
    put = λ k c. same_or_other
        (whole.numerator_of next (slice_index (row_columns wide) k)
        ≡ over_num (cell (row_values wide) k) den) k n
        (λ e. subst (λ i. whole.numerator_of next (slice_index (row_columns wide) i)
        ≡ over_num (cell (row_values wide) i) den) (sym e)
        (ap (whole.numerator_of next) (sym column_is) ∙ here ∙ m_is))
        (λ d. let before : k < n = omega (arith, c, d) in
        elsewhere (slice_index (row_columns wide) k) (within_lem _ (wide.within k
        (omega (arith, before, b))))
        (λ e. absurd (rise_lem _ _ (wide.sparse.rising k n before b) (e ∙ column_is)))
        ∙ h.put k before);
    zeros = λ j c none. elsewhere j (within_lem j c)
        (λ e. none n (omega arith) (sym column_is ∙ sym e))
        ∙ h.zeros j c (λ k d. none k (omega (arith, d)));
  }
    where
      within_lem : (j : ℕ) → j < width_of wide → j ≤ whole.width_of row
      within_lem j c = omega (arith, c, few, h.width)

      rise_lem : (x y : ℕ) → x < y → x ≡ y → ⊥
      rise_lem x y c e = omega (arith, c, e)

pub filled_all : (wide : SparseRow) (old row : NarrowRow) (den n : ℕ)
    → IsFilledTo wide old row den n → (m : ℕ) → IsDenominator (row_values wide) m den
    → length (row_columns wide) ≡ m → n ≡ length (row_columns wide) → (j : ℕ)
    → j < width_of wide → whole.number_of row j ≡ number_of wide j
filled_all wide old row den n h m common long all j c = by_place (sought (row_columns wide) j n)
  where
    by_place : ((k : ℕ) × (k < n) × (slice_index (row_columns wide) k ≡ j))
        ⊎ ((k : ℕ) → k < n → ¬ (slice_index (row_columns wide) k ≡ j))
        → whole.number_of row j ≡ number_of wide j
    by_place (inl f) =
        ap₂ reduce (ap (whole.numerator_of row) (sym f.2) ∙ h.put f.0 f.1) h.over
        ∙ over_is (cell (row_values wide) f.0) den common.above
        (common.divides f.0 (subst (λ x. f.0 < x) (all ∙ long) f.1))
        ∙ sym (number_at_place (row_columns wide) (row_values wide) wide.sparse f.0 j
        (subst (λ n. f.0 < n) all f.1) f.2)
    by_place (inr none) =
        ap (λ z. reduce z row.den) (h.zeros j c none) ∙ sym (over-zero_ℚ row.den row.above)
        ∙ sym (number_missing (row_columns wide) (row_values wide) j
        (λ k d. none k (subst (λ n. k < n) (sym all) d)))
