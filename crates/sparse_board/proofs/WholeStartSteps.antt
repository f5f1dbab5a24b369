-- Rows of whole numbers at the start.
use Rattle.std.specs.Prelude.{◌≡◌, ℕ, ◌+◌, ◌-◌, ◌<◌, ◌≤◌, List, [], ◌∷◌, drop, length, slice_index_or, ◌⊎◌, refl, ℤ, pos}
use Rattle.std.specs.Int.{◌∣◌}
use Rattle.std.proofs.Common.{inl, inr, sym, ◌∙◌, ap, ap₂, arith, subst}
use Rattle.std.proofs.Math.ListN.{drop_of_length-le}
use Rattle.std.proofs.lemmas.Bool.{cases_lt}
use Rattle.std.proofs.lemmas.List.{drop_more}
use Rattle.std.proofs.lemmas.Nat.Gcd.{dvd_refl}
use Rattle.ratio_core.specs.Rational.{Rational, reduce, zero_ℚ}
use Rattle.rational_laws.specs.Over.{over-zero_ℚ}
use Rattle.simplex_laws.specs.BoundedSumLaws.{same_or_other}
use Rattle.sparse_ratios.specs.Terms.{AreTerms, number_at}
use Rattle.tableau_core.specs.Row.{cell}
use Rattle.tableau_core.specs.TermSteps.{AreTermsLeft, all_left, column_past, column_within, left_after, number_there, place_past, zero_at_end, zero_before}
use Rattle.whole_rows.specs.declared.narrow_row.NarrowRow.{NarrowRow}
use Rattle.whole_rows.specs.Common.{over_is, over_num}
use Rattle.whole_rows.specs.Rows.{number_of, numerator_of, width_of}
use Rattle.sparse_board.specs.Starting.{IsNumberPut}

-- ---- a number

-- over 1 a whole number is its numerator
pub whole_is : (value : Rational) (n : ℤ) → value.den ≡ 1 → n ≡ over_num value 1
    → reduce n 1 ≡ value
whole_is value n e is =
    ap (λ z. reduce z 1) is
    ∙ over_is value 1 (omega arith) (subst (λ d. d ∣ 1) (sym e) (dvd_refl 1))

pub zero_is : (row : NarrowRow) → ((j : ℕ) → numerator_of row j ≡ pos 0) → (j : ℕ)
    → number_of row j ≡ zero_ℚ
zero_is row z j = ap (λ n. reduce n row.den) (z j) ∙ sym (over-zero_ℚ row.den row.above)

pub put_over : (column : ℕ) (n : ℤ) (value : Rational) (old new : NarrowRow) → old.den ≡ 1
    → new.den ≡ old.den → width_of new ≡ width_of old → numerator_of new column ≡ n
    → ((k : ℕ) → k ≤ width_of old → ¬ (k ≡ column) → numerator_of new k ≡ numerator_of old k)
    → reduce n 1 ≡ value → IsNumberPut column value old new
put_over column n value old new one same width here elsewhere is = record {
  width = width;
  here = ap₂ reduce here (same ∙ one) ∙ is;
  elsewhere = λ j b m. ap₂ reduce (elsewhere j b m) same;
}

-- a zero stays
pub put_none : (column : ℕ) (value : Rational) (row : NarrowRow) → number_of row column ≡ zero_ℚ
    → value ≡ zero_ℚ → IsNumberPut column value row row
put_none column value row z e = record {
  width = refl;
  here = z ∙ sym e;
  elsewhere = λ j b m. refl;
}

-- ---- a row's terms, one after the other

-- the columns before those that are left have their numbers, and each other has 0
pub record IsWholeTo (from c : ℕ) (all left : List (ℕ × Rational)) (row : NarrowRow) : Type 0 where
  pub next : ℕ
  pub rest : AreTermsLeft from c next all left
  pub numbers : (j : ℕ) → j < next → number_of row j ≡ number_at all (from + j)
  pub zeros : (j : ℕ) → next ≤ j → j ≤ width_of row → number_of row j ≡ zero_ℚ

module _ (from c : ℕ) (all : List (ℕ × Rational)) (row : NarrowRow) where
  pub whole_start : AreTerms from (from + c) all → ((j : ℕ) → numerator_of row j ≡ pos 0)
      → IsWholeTo from c all all row
  whole_start h z = record {
    next = 0;
    rest = all_left from c all h;
    numbers = λ j b. absurd (omega (arith, b));
    zeros = λ j b d. zero_is row z j;
  }

  pub whole_at : (i : ℕ) (t : ℕ × Rational) → i < length all → t ≡ slice_index_or all i t
      → IsWholeTo from c all (drop i all) row → IsWholeTo from c all (t ∷ drop (i + 1) all) row
  whole_at i t b e = subst (λ left. IsWholeTo from c all left row)
      (drop_more all i t b ∙ ap (λ x. x ∷ drop (i + 1) all) (sym e))

  pub whole_end : (i : ℕ) → length all ≤ i → IsWholeTo from c all (drop i all) row
      → IsWholeTo from c all [] row
  whole_end i b = subst (λ left. IsWholeTo from c all left row) (drop_of_length-le all b)

  pub whole_reals : IsWholeTo from c all [] row → c ≤ width_of row → (j : ℕ) → j < c
      → number_of row j ≡ number_at all (from + j)
  whole_reals d wide j b = by_start (cases_lt j d.next)
    where
      within_lem : (j c w : ℕ) → j < c → c ≤ w → j ≤ w
      within_lem j c w b h = omega (arith, b, h)

      by_start : (j < d.next) ⊎ (d.next ≤ j) → number_of row j ≡ number_at all (from + j)
      by_start (inl e) = d.numbers j e
      by_start (inr e) =
          d.zeros j e (within_lem j c _ b wide)
          ∙ sym (zero_at_end from c d.next all d.rest j e b)

  pub whole_zeros : IsWholeTo from c all [] row → (j : ℕ) → c ≤ j → j ≤ width_of row
      → number_of row j ≡ zero_ℚ
  whole_zeros d j b w = d.zeros j (low_lem d.next c j d.rest.low b) w
    where
      low_lem : (n c j : ℕ) → n ≤ c → c ≤ j → n ≤ j
      low_lem n c j h b = omega (arith, h, b)

  module _ (t : ℕ × Rational) (left : List (ℕ × Rational))
      (d : IsWholeTo from c all (t ∷ left) row) where
    pub term_within : t.0 - from < c
    term_within = column_within from c d.next all t left d.rest

    pub term_place : from ≤ t.0
    term_place = place_past from c d.next all t left d.rest

    pub whole_term : (new : NarrowRow) → c ≤ width_of row
        → IsNumberPut (t.0 - from) t.1 row new → IsWholeTo from c all left new
    whole_term new wide put = record {
      next = t.0 - from + 1;
      rest = left_after from c d.next all t left d.rest;
      numbers = λ j b. same_or_other (number_of new j ≡ number_at all (from + j)) j (t.0 - from)
          (λ e. subst (λ k. number_of new k ≡ number_at all (from + k)) (sym e)
          (put.here ∙ sym (number_there from c d.next all t left d.rest)))
          (λ n. let low : j < t.0 - from = low_lem j _ b n in
          let w : j ≤ width_of row = within_lem j _ c _ low term_within wide in
          put.elsewhere j w n ∙ by_start j low w (cases_lt j d.next));
      zeros = λ j b w. put.elsewhere j (subst (λ n. j ≤ n) put.width w) (past_lem j _ b)
          ∙ d.zeros j (next_lem d.next _ j (column_past from c d.next all t left d.rest) b)
          (subst (λ n. j ≤ n) put.width w);
    }
      where
        low_lem : (j k : ℕ) → j < k + 1 → ¬ (j ≡ k) → j < k
        low_lem j k b n = omega (arith, b, n)

        within_lem : (j k c w : ℕ) → j < k → k < c → c ≤ w → j ≤ w
        within_lem j k c w b d h = omega (arith, b, d, h)

        past_lem : (j k : ℕ) → k + 1 ≤ j → ¬ (j ≡ k)
        past_lem j k b e = omega (arith, b, e)

        next_lem : (n k j : ℕ) → n ≤ k → k + 1 ≤ j → n ≤ j
        next_lem n k j h b = omega (arith, h, b)

        by_start : (j : ℕ) → j < t.0 - from → j ≤ width_of row → (j < d.next) ⊎ (d.next ≤ j)
            → number_of row j ≡ number_at all (from + j)
        by_start j b w (inl e) = d.numbers j e
        by_start j b w (inr e) =
            d.zeros j e w ∙ sym (zero_before from c d.next all t left d.rest j e b)

-- ---- numbers, one after the other

-- the first i columns have their numbers, and each other has 0
pub record AreFirstPut (i : ℕ) (numbers : List Rational) (row : NarrowRow) : Type 0 where
  pub put : (j : ℕ) → j < i → number_of row j ≡ cell numbers j
  pub zeros : (j : ℕ) → i ≤ j → j ≤ width_of row → number_of row j ≡ zero_ℚ

pub first_none : (numbers : List Rational) (row : NarrowRow)
    → ((j : ℕ) → numerator_of row j ≡ pos 0) → AreFirstPut 0 numbers row
first_none numbers row z = record {
  put = λ j b. absurd (omega (arith, b));
  zeros = λ j b d. zero_is row z j;
}

pub first_more : (i : ℕ) (numbers : List Rational) (value : Rational) (row new : NarrowRow)
    → i ≤ width_of row → AreFirstPut i numbers row → value ≡ cell numbers i
    → IsNumberPut i value row new → AreFirstPut (i + 1) numbers new
first_more i numbers value row new wide h is put = record {
  put = λ j b. same_or_other (number_of new j ≡ cell numbers j) j i
      (λ e. subst (λ k. number_of new k ≡ cell numbers k) (sym e) (put.here ∙ is))
      (λ n. put.elsewhere j (within_lem j i _ b wide) n ∙ h.put j (low_lem j i b n));
  zeros = λ j b w. put.elsewhere j (subst (λ n. j ≤ n) put.width w) (past_lem j i b)
      ∙ h.zeros j (next_lem j i b) (subst (λ n. j ≤ n) put.width w);
}
  where
    within_lem : (j i w : ℕ) → j < i + 1 → i ≤ w → j ≤ w
    within_lem j i w b h = omega (arith, b, h)

    low_lem : (j i : ℕ) → j < i + 1 → ¬ (j ≡ i) → j < i
    low_lem j i b n = omega (arith, b, n)

    past_lem : (j i : ℕ) → i + 1 ≤ j → ¬ (j ≡ i)
    past_lem j i b e = omega (arith, b, e)

    next_lem : (j i : ℕ) → i + 1 ≤ j → i ≤ j
    next_lem j i b = omega (arith, b)

-- ---- a row: its entries, and then a unit and a right side

module _ (first second third : NarrowRow) (unit w : ℕ) (one side : Rational)
    (w_is : w ≡ width_of second) (unit_put : IsNumberPut unit one first second)
    (side_put : IsNumberPut w side second third) where
  not_side : (j : ℕ) → j < width_of first → ¬ (j ≡ w)
  not_side j b e = omega (arith, b, e, w_is, unit_put.width)

  in_second : (j : ℕ) → j < width_of first → j ≤ width_of second
  in_second j b = omega (arith, b, unit_put.width)

  in_first : (j : ℕ) → j < width_of first → j ≤ width_of first
  in_first j b = omega (arith, b)

  pub row_same : (j : ℕ) → j < width_of first → ¬ (j ≡ unit)
      → number_of third j ≡ number_of first j
  row_same j b n =
      side_put.elsewhere j (in_second j b) (not_side j b) ∙ unit_put.elsewhere j (in_first j b) n

  pub row_unit : unit < width_of first → number_of third unit ≡ one
  row_unit b = side_put.elsewhere unit (in_second unit b) (not_side unit b) ∙ unit_put.here

  pub row_side : number_of third (width_of first) ≡ side
  row_side = subst (λ k. number_of third k ≡ side) (w_is ∙ unit_put.width) side_put.here
