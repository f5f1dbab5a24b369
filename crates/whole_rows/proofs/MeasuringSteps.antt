-- What divides the new numerators of a row, and how large they are: those of the columns that are
-- marked, one after another, and the right side's.
use Rattle.std.specs.Prelude.{◌≡◌, ℕ, ◌+◌, ◌-◌, ◌<◌, ◌≤◌, ◌⊎◌, slice_index_or, ℤ, pos, unsigned_abs}
use Rattle.std.proofs.Common.{inl, inr, sym, ◌∙◌, ap, arith, subst}
use Rattle.std.specs.Int.{bit_at, ◌∣◌}
use Rattle.std.proofs.lemmas.Bool.{cases_lt}
use Rattle.std.proofs.lemmas.List.{get_or_default, get_or_past}
use Rattle.std.proofs.lemmas.Nat.Bits.{bit_at-zero}
use Rattle.std.proofs.lemmas.Nat.Gcd.{dvd-zero, dvd_trans}
use Rattle.ratio_core.specs.Gcd.{gcd, gcd_is}
use Rattle.simplex_laws.specs.BoundedSumLaws.{same_or_other}
use Rattle.whole_rows.specs.Bits.{IsBitCleared}
use Rattle.whole_rows.specs.ColumnMarks.{WordCovers}
use Rattle.whole_rows.specs.declared.narrow_row.NarrowRow.{NarrowRow}
use Rattle.whole_rows.specs.Over.{lowered_num}
use Rattle.whole_rows.specs.Rows.{numerator_of, width_of}
use Rattle.whole_rows.specs.Shrinking.{DividesTo, IsBelowOrSide, IsMeasuredOn, IsSizedTo, lowered_of}
use Rattle.whole_rows.proofs.MarkSteps.{lowered_zeros}

module _ (row step : NarrowRow) (over : ℕ) (by : ℤ) where
  -- a new numerator of 0 is divided by all
  pub measured_wider : (S T : ℕ → Type 0) (common greatest : ℕ)
      → IsMeasuredOn S row step over by common greatest
      → ((j : ℕ) → T j → S j ⊎ (lowered_of row step over by j ≡ pos 0))
      → IsMeasuredOn T row step over by common greatest
  measured_wider S T common greatest h from = record {
    positive = h.positive;
    den = h.den;
    divides = λ j t. by_place j (from j t);
    within = λ j t. by_size j (from j t);
  }
    where
      by_place : (j : ℕ) → S j ⊎ (lowered_of row step over by j ≡ pos 0)
          → common ∣ unsigned_abs (lowered_of row step over by j)
      by_place j (inl s) = h.divides j s
      by_place j (inr e) = subst (λ z. common ∣ unsigned_abs z) (sym e) (dvd-zero common)

      by_size : (j : ℕ) → S j ⊎ (lowered_of row step over by j ≡ pos 0)
          → unsigned_abs (lowered_of row step over by j) ≤ greatest
      by_size j (inl s) = h.within j s
      by_size j (inr e) = subst (λ z. unsigned_abs z ≤ greatest) (sym e) (omega arith)

  -- a column more
  pub measured_more : (S T : ℕ → Type 0) (common greatest k size more most : ℕ)
      → IsMeasuredOn S row step over by common greatest
      → size ≡ unsigned_abs (lowered_of row step over by k) → more ≡ gcd size common → 0 < more
      → size ≤ most → greatest ≤ most → ((j : ℕ) → T j → S j ⊎ (j ≡ k))
      → IsMeasuredOn T row step over by more most
  measured_more S T common greatest k size more most h size_is more_is above left right from = record {
    positive = above;
    den = dvd_trans more divides_lem h.den;
    divides = λ j t. by_place j (from j t);
    within = λ j t. by_size j (from j t);
  }
    where
      divides_lem : more ∣ common
      divides_lem = subst (λ m. m ∣ common) (sym more_is) (gcd_is size common).1

      at_most_lem : (a b c : ℕ) → a ≤ b → b ≤ c → a ≤ c
      at_most_lem a b c x y = omega (arith, x, y)

      by_place : (j : ℕ) → S j ⊎ (j ≡ k) → more ∣ unsigned_abs (lowered_of row step over by j)
      by_place j (inl s) = dvd_trans more divides_lem (h.divides j s)
      by_place j (inr e) =
          subst (λ i. more ∣ unsigned_abs (lowered_of row step over by i)) (sym e)
          (subst (λ n. more ∣ n) size_is
          (subst (λ m. m ∣ size) (sym more_is) (gcd_is size common).0))

      by_size : (j : ℕ) → S j ⊎ (j ≡ k) → unsigned_abs (lowered_of row step over by j) ≤ most
      by_size j (inl s) = at_most_lem _ _ _ (h.within j s) right
      by_size j (inr e) =
          subst (λ i. unsigned_abs (lowered_of row step over by i) ≤ most) (sym e)
          (subst (λ n. n ≤ most) size_is left)

  -- the right side alone
  pub measured_side : (greatest common : ℕ) → width_of step ≡ width_of row
      → greatest ≡ unsigned_abs (lowered_num row.side over by step.side)
      → common ≡ gcd greatest row.den → 0 < common
      → IsMeasuredOn (IsBelowOrSide row 0) row step over by common greatest
  measured_side greatest common width greatest_is common_is above = record {
    positive = above;
    den = subst (λ m. m ∣ row.den) (sym common_is) (gcd_is greatest row.den).1;
    divides = λ j t. subst (λ n. common ∣ n) (sym (size_lem j t))
        (subst (λ m. m ∣ greatest) (sym common_is) (gcd_is greatest row.den).0);
    within = λ j t. subst (λ n. n ≤ greatest) (sym (size_lem j t)) (omega arith);
  }
    where
      size_lem : (j : ℕ) → IsBelowOrSide row 0 j
          → unsigned_abs (lowered_of row step over by j) ≡ greatest
      size_lem j (inl b) = absurd (omega (arith, b))
      size_lem j (inr b) =
          (λ i. unsigned_abs (lowered_num (get_or_past row.numbers.items j row.side b i) over by
          (get_or_past step.numbers.items j step.side (subst (λ n. n ≤ j) (sym width) b) i)))
          ∙ sym greatest_is

  pub measured_all : (n common greatest : ℕ)
      → IsMeasuredOn (IsBelowOrSide row n) row step over by common greatest → width_of row ≤ n
      → (m : ℕ) → DividesTo row step over by m common × IsSizedTo row step over by m greatest
  measured_all n common greatest h past m = (
    record {
      positive = h.positive;
      den = h.den;
      numbers = λ j b. h.divides j (place_lem j);
    },
    record { numbers = λ j b. h.within j (place_lem j) },
  )
    where
      below_lem : (j w n : ℕ) → j < w → w ≤ n → j < n
      below_lem j w n a b = omega (arith, a, b)

      place_lem : (j : ℕ) → IsBelowOrSide row n j
      place_lem j = by_end (cases_lt j (width_of row))
        where
          by_end : (j < width_of row) ⊎ (width_of row ≤ j) → IsBelowOrSide row n j
          by_end (inl b) = inl (below_lem j (width_of row) n b past)
          by_end (inr b) = inr b

  -- ---- the columns of a word

  -- a column before the word, or of it without a bit in `rest`, or the place of the right side
  abbrev pub IsMeasuredPlace : ℕ → ℕ → ℕ → Type 0
  IsMeasuredPlace start rest j =
      IsBelowOrSide row start j
      ⊎ ((i : ℕ) × (i < 64) × (start + i ≡ j) × (bit_at rest i ≡ 0))

  pub word_measured_first : (start word common greatest : ℕ) → width_of step ≡ width_of row
      → WordCovers word start row.numbers.items → WordCovers word start step.numbers.items
      → IsMeasuredOn (IsBelowOrSide row start) row step over by common greatest
      → IsMeasuredOn (IsMeasuredPlace start word) row step over by common greatest
  word_measured_first start word common greatest width covers step_covers h =
      measured_wider (IsBelowOrSide row start) (IsMeasuredPlace start word) common greatest h
      from_lem
    where
      zero_lem : (j i : ℕ) → i < 64 → start + i ≡ j → bit_at word i ≡ 0 → j < width_of row
          → lowered_of row step over by j ≡ pos 0
      zero_lem j i b e z c =
          (λ k. lowered_num (row_lem k) over by (step_lem k)) ∙ lowered_zeros over by
        where
          row_lem : numerator_of row j ≡ pos 0
          row_lem =
              get_or_default row.numbers.items j row.side (pos 0) c
              ∙ subst (λ n. slice_index_or row.numbers.items n (pos 0) ≡ pos 0) e
              (covers.unset i b z)

          step_lem : numerator_of step j ≡ pos 0
          step_lem =
              get_or_default step.numbers.items j step.side (pos 0)
              (subst (λ n. j < n) (sym width) c)
              ∙ subst (λ n. slice_index_or step.numbers.items n (pos 0) ≡ pos 0) e
              (step_covers.unset i b z)

      from_lem : (j : ℕ) → IsMeasuredPlace start word j
          → IsBelowOrSide row start j ⊎ (lowered_of row step over by j ≡ pos 0)
      from_lem j (inl s) = inl s
      from_lem j (inr f) = by_end (cases_lt j (width_of row))
        where
          by_end : (j < width_of row) ⊎ (width_of row ≤ j)
              → IsBelowOrSide row start j ⊎ (lowered_of row step over by j ≡ pos 0)
          by_end (inl c) = inr (zero_lem j f.0 f.1 f.2 f.3 c)
          by_end (inr c) = inl (inr c)

  pub word_measured_next : (start rest bit next common greatest size more most : ℕ)
      → IsMeasuredOn (IsMeasuredPlace start rest) row step over by common greatest
      → IsBitCleared bit rest next
      → size ≡ unsigned_abs (lowered_of row step over by (start + bit)) → more ≡ gcd size common
      → 0 < more → size ≤ most → greatest ≤ most
      → IsMeasuredOn (IsMeasuredPlace start next) row step over by more most
  word_measured_next start rest bit next common greatest size more most h cleared size_is more_is
      above left right =
      measured_more (IsMeasuredPlace start rest) (IsMeasuredPlace start next) common greatest
      (start + bit) size more most h size_is more_is above left right from_lem
    where
      from_lem : (j : ℕ) → IsMeasuredPlace start next j
          → IsMeasuredPlace start rest j ⊎ (j ≡ start + bit)
      from_lem j (inl s) = inl (inl s)
      from_lem j (inr f) =
          same_or_other (IsMeasuredPlace start rest j ⊎ (j ≡ start + bit)) f.0 bit
          (λ e. inr (sym f.2 ∙ ap (λ i. start + i) e))
          (λ n. inl (inr (f.0, f.1, f.2, sym (cleared.others f.0 n) ∙ f.3)))

  pub word_measured_end : (start rest common greatest : ℕ)
      → IsMeasuredOn (IsMeasuredPlace start rest) row step over by common greatest → rest ≡ 0
      → IsMeasuredOn (IsBelowOrSide row (start + 64)) row step over by common greatest
  word_measured_end start rest common greatest h none =
      measured_wider (IsMeasuredPlace start rest) (IsBelowOrSide row (start + 64)) common greatest h
      (λ j t. inl (from_lem j t))
    where
      small_lem : (j n : ℕ) → n ≤ j → j < n + 64 → j - n < 64
      small_lem j n b c = omega (arith, b, c)

      place_lem : (j n : ℕ) → n ≤ j → n + (j - n) ≡ j
      place_lem j n b = omega (arith, b)

      from_lem : (j : ℕ) → IsBelowOrSide row (start + 64) j → IsMeasuredPlace start rest j
      from_lem j (inr b) = inl (inr b)
      from_lem j (inl b) = by_start (cases_lt j start)
        where
          by_start : (j < start) ⊎ (start ≤ j) → IsMeasuredPlace start rest j
          by_start (inl c) = inl (inl c)
          by_start (inr c) = inr (
            j - start,
            small_lem j start c b,
            place_lem j start c,
            ap (λ x. bit_at x (j - start)) none ∙ bit_at-zero (j - start),
          )
