-- The first cost row, lowered from zeros by each row of the matrix.
use Rattle.std.specs.Prelude.{◌≡◌, ℕ, ◌+◌, ◌-◌, ◌*◌, ◌^◌, ◌<◌, ◌≤◌, suc, true, List, [], ◌∷◌, drop, length, slice_index_or, ◌⊎◌, refl, ℤ, pos, ◌+ℤ◌, neg_ℤ, unsigned_abs}
use Rattle.std.proofs.Common.{inl, inr, sym, ◌∙◌, ap, ap₂, arith, subst, subst₂}
use Rattle.std.proofs.Math.ListN.{drop_of_length-le}
use Rattle.std.proofs.lemmas.Bool.{cases_lt}
use Rattle.std.proofs.lemmas.Int.{ints}
use Rattle.std.proofs.lemmas.List.{drop_more}
use Rattle.ratio_core.specs.Rational.{Fits, Rational, SumFits, neg_ℚ, reduce, sum_fits, zero_ℚ, ◌+ℚ◌}
use Rattle.ratio_core.specs.RationalLaws.{sum_fits_Decides}
use Rattle.rational_laws.specs.Field.{+ℚ-zero, neg_ℚ-neg_ℚ, neg_ℚ-zero}
use Rattle.rational_laws.specs.Fitting.{Fits_neg_ℚ, size_neg}
use Rattle.rational_laws.specs.Over.{over-+ℚ, over-neg_ℚ}
use Rattle.rational_laws.specs.ZeroSums.{SumFits-zero_right}
use Rattle.simplex_form.specs.Basis.{start}
use Rattle.simplex_form.specs.Board.{price}
use Rattle.simplex_form.specs.BoundedSums.{sum_to}
use Rattle.simplex_form.specs.Fit.{first_sum_fits, start_fits}
use Rattle.simplex_form.specs.Form.{Form, first_cost}
use Rattle.simplex_form.specs.Search.{all_below}
use Rattle.simplex_laws.specs.BoundedSumLaws.{same_or_other}
use Rattle.simplex_laws.specs.SearchLaws.{all_below_all, all_below_more}
use Rattle.sparse_ratios.specs.Terms.{AreTerms, number_at}
use Rattle.tableau_core.specs.Row.{cell}
use Rattle.tableau_core.specs.Start.{form_of}
use Rattle.tableau_core.specs.StartLaws.{first-artificial, first-real}
use Rattle.tableau_core.specs.TermSteps.{AreTermsLeft, all_left, column_past, column_within, left_after, number_there, place_past, zero_at_end, zero_before}
use Rattle.whole_rows.specs.declared.narrow_row.NarrowRow.{NarrowRow}
use Rattle.whole_rows.specs.FitLaws.{Fits_over, SumFits_over}
use Rattle.whole_rows.specs.Rows.{number_of, numerator_of, width_of}
use Rattle.sparse_board.specs.Starting.{IsNumberLowered, owed}
use Rattle.sparse_board.proofs.WholeStartSteps.{zero_is}

-- ---- a number

short_lem : (a b : ℕ) → a ≤ b → b < 2 ^ 63 → a < 2 ^ 127
short_lem a b h k = omega (arith, h, k)

-- what a column owes fits
pub owed_fits : (row : NarrowRow) (j : ℕ) → Fits (owed row j)
owed_fits row j =
    Fits_neg_ℚ (number_of row j) (Fits_over (numerator_of row j) row.den row.above
    (short_lem _ _ (row.within.sizes j) row.small_bound) (den_lem row.den row.small_den))
  where
    den_lem : (d : ℕ) → d < 2 ^ 63 → d < 2 ^ 127
    den_lem d h = omega (arith, h)

-- a value is taken off
pub lowered_over : (column : ℕ) (n less : ℤ) (value : Rational) (old new : NarrowRow)
    → old.den ≡ 1 → new.den ≡ old.den → width_of new ≡ width_of old
    → numerator_of new column ≡ less
    → ((k : ℕ) → k ≤ width_of old → ¬ (k ≡ column) → numerator_of new k ≡ numerator_of old k)
    → reduce n 1 ≡ value → unsigned_abs n < 2 ^ 63 → less +ℤ n ≡ numerator_of old column
    → unsigned_abs less < 2 ^ 63 → IsNumberLowered column value old new
lowered_over column n less value old new one same width here elsewhere is n_small left small = record {
  width = width;
  here = owed_new ∙ sym (ap₂ ◌+ℚ◌ owed_old (sym is) ∙ over-+ℚ (neg_ℤ a) n 1 above ∙ ap (λ z. reduce z 1) sum);
  fits = subst₂ SumFits (sym owed_old) is
      (SumFits_over (neg_ℤ a) n 1 above
      (subst (λ x. x < 2 ^ 127) (sym (size_neg a))
      (short_lem _ _ (old.within.sizes column) old.small_bound))
      (size_lem (unsigned_abs n) n_small)
      (subst (λ z. unsigned_abs z < 2 ^ 127) (sym sum)
      (subst (λ x. x < 2 ^ 127) (sym (size_neg less)) (size_lem (unsigned_abs less) small)))
      (omega arith));
  elsewhere = λ j b m. ap₂ reduce (elsewhere j b m) same;
}
  where
    a : ℤ
    a = numerator_of old column

    above : 0 < 1
    above = omega arith

    owed_old : owed old column ≡ reduce (neg_ℤ a) 1
    owed_old = ap (λ d. neg_ℚ (reduce a d)) one ∙ over-neg_ℚ a 1 above

    owed_new : owed new column ≡ reduce (neg_ℤ less) 1
    owed_new = ap₂ (λ z d. neg_ℚ (reduce z d)) here (same ∙ one) ∙ over-neg_ℚ less 1 above

    sum_lem : (x y z : ℤ) → x +ℤ y ≡ z → neg_ℤ z +ℤ y ≡ neg_ℤ x
    sum_lem x y z e = omega (arith, ints, e)

    sum : neg_ℤ a +ℤ n ≡ neg_ℤ less
    sum = sum_lem less n a left

    size_lem : (x : ℕ) → x < 2 ^ 63 → x < 2 ^ 127
    size_lem x h = omega (arith, h)

-- ---- a row's terms, one after the other

-- the columns before those that are left are lowered, and each other has its number still
pub record AreLoweredTo (from c : ℕ) (all left : List (ℕ × Rational)) (old row : NarrowRow) : Type 0 where
  pub next : ℕ
  pub rest : AreTermsLeft from c next all left
  pub width : width_of row ≡ width_of old
  pub sums : (j : ℕ) → j < next → owed row j ≡ owed old j +ℚ number_at all (from + j)
  pub fits : (j : ℕ) → j < next → SumFits (owed old j) (number_at all (from + j))
  pub same : (j : ℕ) → next ≤ j → j ≤ width_of old → number_of row j ≡ number_of old j

module _ (from c : ℕ) (all : List (ℕ × Rational)) (old row : NarrowRow) where
  pub lowered_start : row ≡ old → AreTerms from (from + c) all → AreLoweredTo from c all all old row
  lowered_start e h = record {
    next = 0;
    rest = all_left from c all h;
    width = ap width_of e;
    sums = λ j b. absurd (omega (arith, b));
    fits = λ j b. absurd (omega (arith, b));
    same = λ j b d. ap (λ r. number_of r j) e;
  }

  pub lowered_at : (i : ℕ) (t : ℕ × Rational) → i < length all → t ≡ slice_index_or all i t
      → AreLoweredTo from c all (drop i all) old row
      → AreLoweredTo from c all (t ∷ drop (i + 1) all) old row
  lowered_at i t b e = subst (λ left. AreLoweredTo from c all left old row)
      (drop_more all i t b ∙ ap (λ x. x ∷ drop (i + 1) all) (sym e))

  pub lowered_end : (i : ℕ) → length all ≤ i → AreLoweredTo from c all (drop i all) old row
      → AreLoweredTo from c all [] old row
  lowered_end i b = subst (λ left. AreLoweredTo from c all left old row) (drop_of_length-le all b)

  -- a column without a term
  untouched : (j : ℕ) → number_at all (from + j) ≡ zero_ℚ → number_of row j ≡ number_of old j
      → owed row j ≡ owed old j +ℚ number_at all (from + j)
  untouched j z e = ap neg_ℚ e ∙ sym (ap (λ x. owed old j +ℚ x) z ∙ +ℚ-zero (owed old j))

  untouched_fits : (j : ℕ) → number_at all (from + j) ≡ zero_ℚ
      → SumFits (owed old j) (number_at all (from + j))
  untouched_fits j z =
      subst (SumFits (owed old j)) (sym z) (SumFits-zero_right (owed old j) (owed_fits old j))

  within_lem : (j c w : ℕ) → j < c → c ≤ w → j ≤ w
  within_lem j c w b h = omega (arith, b, h)

  module _ (d : AreLoweredTo from c all [] old row) (wide : c ≤ width_of old) where
    pub lowered_sums : (j : ℕ) → j < c → owed row j ≡ owed old j +ℚ number_at all (from + j)
    lowered_sums j b = by_start (cases_lt j d.next)
      where
        by_start : (j < d.next) ⊎ (d.next ≤ j)
            → owed row j ≡ owed old j +ℚ number_at all (from + j)
        by_start (inl e) = d.sums j e
        by_start (inr e) =
            untouched j (zero_at_end from c d.next all d.rest j e b)
            (d.same j e (within_lem j c _ b wide))

    pub lowered_fits : (j : ℕ) → j < c → SumFits (owed old j) (number_at all (from + j))
    lowered_fits j b = by_start (cases_lt j d.next)
      where
        by_start : (j < d.next) ⊎ (d.next ≤ j) → SumFits (owed old j) (number_at all (from + j))
        by_start (inl e) = d.fits j e
        by_start (inr e) = untouched_fits j (zero_at_end from c d.next all d.rest j e b)

    pub lowered_others : (j : ℕ) → c ≤ j → j ≤ width_of old → number_of row j ≡ number_of old j
    lowered_others j b w = d.same j (low_lem d.next c j d.rest.low b) w
      where
        low_lem : (n c j : ℕ) → n ≤ c → c ≤ j → n ≤ j
        low_lem n c j h b = omega (arith, h, b)

  module _ (t : ℕ × Rational) (left : List (ℕ × Rational))
      (d : AreLoweredTo from c all (t ∷ left) old row) where
    pub lowered_within : t.0 - from < c
    lowered_within = column_within from c d.next all t left d.rest

    pub lowered_place : from ≤ t.0
    lowered_place = place_past from c d.next all t left d.rest

    abbrev place : ℕ
    place = t.0 - from

    past : d.next ≤ place
    past = column_past from c d.next all t left d.rest

    there : number_at all (from + place) ≡ t.1
    there = number_there from c d.next all t left d.rest

    before : (j : ℕ) → d.next ≤ j → j < place → number_at all (from + j) ≡ zero_ℚ
    before = zero_before from c d.next all t left d.rest

    pub lowered_term : (new : NarrowRow) → c ≤ width_of old
        → IsNumberLowered (t.0 - from) t.1 row new → AreLoweredTo from c all left old new
    lowered_term new wide put = record {
      next = place + 1;
      rest = left_after from c d.next all t left d.rest;
      width = put.width ∙ d.width;
      sums = λ j b. same_or_other (owed new j ≡ owed old j +ℚ number_at all (from + j)) j place
          (λ e. subst (λ k. owed new k ≡ owed old k +ℚ number_at all (from + k)) (sym e)
          (put.here ∙ ap₂ ◌+ℚ◌ (ap neg_ℚ (d.same place past place_within)) (sym there)))
          (λ n. ap neg_ℚ (put.elsewhere j (in_row j (low_lem j _ b n)) n)
          ∙ sum_before j (low_lem j _ b n) (cases_lt j d.next));
      fits = λ j b. same_or_other (SumFits (owed old j) (number_at all (from + j))) j place
          (λ e. subst (λ k. SumFits (owed old k) (number_at all (from + k))) (sym e)
          (subst₂ SumFits (ap neg_ℚ (d.same place past place_within)) (sym there) put.fits))
          (λ n. fit_before j (low_lem j _ b n) (cases_lt j d.next));
      same = λ j b w. put.elsewhere j (subst (λ n. j ≤ n) (sym d.width) w) (past_lem j _ b)
          ∙ d.same j (next_lem d.next _ j past b) w;
    }
      where
        place_within : t.0 - from ≤ width_of old
        place_within = within_lem _ c _ lowered_within wide

        low_lem : (j k : ℕ) → j < k + 1 → ¬ (j ≡ k) → j < k
        low_lem j k b n = omega (arith, b, n)

        past_lem : (j k : ℕ) → k + 1 ≤ j → ¬ (j ≡ k)
        past_lem j k b e = omega (arith, b, e)

        next_lem : (n k j : ℕ) → n ≤ k → k + 1 ≤ j → n ≤ j
        next_lem n k j h b = omega (arith, h, b)

        far_lem : (j k c w : ℕ) → j < k → k < c → c ≤ w → j ≤ w
        far_lem j k c w b e h = omega (arith, b, e, h)

        in_old : (j : ℕ) → j < t.0 - from → j ≤ width_of old
        in_old j b = far_lem j _ c _ b lowered_within wide

        in_row : (j : ℕ) → j < t.0 - from → j ≤ width_of row
        in_row j b = subst (λ n. j ≤ n) (sym d.width) (in_old j b)

        sum_before : (j : ℕ) → j < t.0 - from → (j < d.next) ⊎ (d.next ≤ j)
            → owed row j ≡ owed old j +ℚ number_at all (from + j)
        sum_before j b (inl e) = d.sums j e
        sum_before j b (inr e) = untouched j (before j e b) (d.same j e (in_old j b))

        fit_before : (j : ℕ) → j < t.0 - from → (j < d.next) ⊎ (d.next ≤ j)
            → SumFits (owed old j) (number_at all (from + j))
        fit_before j b (inl e) = d.fits j e
        fit_before j b (inr e) = untouched_fits j (before j e b)

-- ---- row by row

-- each real column owes the sum of its first i entries, each of which fits, and each other has 0
pub record AreOwed (m c : ℕ) (matrix : List Rational) (i : ℕ) (row : NarrowRow) : Type 0 where
  pub within : i ≤ m
  pub den : row.den ≡ 1
  pub width : width_of row ≡ c + m
  pub sums : (j : ℕ) → j < c → owed row j ≡ sum_to i (λ k. cell matrix (k * c + j))
  pub fit : (j : ℕ) → j < c → all_below i (λ k. sum_fits (sum_to k (λ l. cell matrix (l * c + j)))
      (cell matrix (k * c + j))) ≡ true
  pub rest : (j : ℕ) → c ≤ j → j ≤ width_of row → number_of row j ≡ zero_ℚ

module _ (m c : ℕ) (matrix : List Rational) where
  pub owed_none : (row : NarrowRow) → row.den ≡ 1 → width_of row ≡ c + m
      → ((j : ℕ) → numerator_of row j ≡ pos 0) → AreOwed m c matrix 0 row
  owed_none row den width zeros = record {
    within = omega arith;
    den = den;
    width = width;
    sums = λ j b. ap neg_ℚ (zero_is row zeros j) ∙ neg_ℚ-zero;
    fit = λ j b. refl;
    rest = λ j b w. zero_is row zeros j;
  }

  module _ (i : ℕ) (row : NarrowRow) (h : AreOwed m c matrix i row) where
    pub owed_row : (next : NarrowRow) (terms : List (ℕ × Rational)) → i < m → next.den ≡ 1
        → width_of next ≡ width_of row
        → ((j : ℕ) → j < c → number_at terms (i * c + j) ≡ cell matrix (i * c + j))
        → ((j : ℕ) → j < c → owed next j ≡ owed row j +ℚ number_at terms (i * c + j))
        → ((j : ℕ) → j < c → SumFits (owed row j) (number_at terms (i * c + j)))
        → ((j : ℕ) → c ≤ j → j ≤ width_of row → number_of next j ≡ number_of row j)
        → AreOwed m c matrix (i + 1) next
    owed_row next terms b den width same sums fits others = record {
      within = omega (arith, b);
      den = den;
      width = width ∙ h.width;
      sums = λ j d. sums j d ∙ ap₂ ◌+ℚ◌ (h.sums j d) (same j d)
          ∙ ap (λ n. sum_to n (λ k. cell matrix (k * c + j))) (more_lem i);
      fit = λ j d. all_below_more i (λ k. sum_fits (sum_to k (λ l. cell matrix (l * c + j)))
          (cell matrix (k * c + j))) (h.fit j d)
          ((sum_fits_Decides (sum_to i (λ l. cell matrix (l * c + j))) (cell matrix (i * c + j))).1
          (subst₂ SumFits (h.sums j d) (same j d) (fits j d)));
      rest = λ j d w. others j d (subst (λ n. j ≤ n) width w)
          ∙ h.rest j d (subst (λ n. j ≤ n) width w);
    }
      where
        more_lem : (i : ℕ) → suc i ≡ i + 1
        more_lem i = omega arith

    -- at the end
    module _ (all : i ≡ m) (right costs : List Rational) where
      abbrev F : Form
      F = form_of m c matrix right costs

      pub owed_fit : start_fits F ≡ true
      owed_fit =
          all_below_all c (first_sum_fits F) (λ j b. subst
          (λ n. all_below n (λ k. sum_fits (sum_to k (λ l. cell matrix (l * c + j)))
          (cell matrix (k * c + j))) ≡ true) all (h.fit j b))

      pub owed_prices : (j : ℕ) → j < c + m → number_of row j ≡ price F (start F) (first_cost F) j
      owed_prices j b = by_kind (cases_lt j c)
        where
          row_lem : (j w : ℕ) → j < c + m → w ≡ c + m → j ≤ w
          row_lem j w b e = omega (arith, b, e)

          by_kind : (j < c) ⊎ (c ≤ j) → number_of row j ≡ price F (start F) (first_cost F) j
          by_kind (inl d) = first-real F j (number_of row j) d
              (sym (neg_ℚ-neg_ℚ (number_of row j)) ∙ ap neg_ℚ (h.sums j d
              ∙ ap (λ n. sum_to n (λ l. cell matrix (l * c + j))) all))
          by_kind (inr d) =
              h.rest j d (row_lem j _ b h.width) ∙ sym (first-artificial F j d b)
