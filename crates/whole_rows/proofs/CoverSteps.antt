-- Rows whose marks are those of their numbers, after a step. The lists are given as the code has
-- them, with equations that say what they are.
use Rattle.std.specs.Prelude.{◌≡◌, ℕ, ◌<◌, ◌≤◌, ◌⊎◌, List, length, slice_index_or, slice_set, ℤ, pos, unsigned_abs}
use Rattle.std.proofs.Common.{inl, inr, sym, ◌∙◌, ap, arith, subst, subst₂}
use Rattle.std.proofs.lemmas.Bool.{cases_lt}
use Rattle.std.proofs.lemmas.List.{get_or-set_other, get_or-set_same, get_or_default, get_or_past, length-set}
use Rattle.ratio_core.specs.Rational.{reduce, zero_ℚ}
use Rattle.rational_laws.specs.Over.{over-zero_ℚ}
use Rattle.simplex_laws.specs.BoundedSumLaws.{same_or_other}
use Rattle.whole_rows.specs.ColumnMarks.{AreMarksJoined, AreScaled, MarksCover, words_of}
use Rattle.whole_rows.specs.declared.narrow_row.NarrowRow.{NarrowRow}
use Rattle.whole_rows.specs.Numerators.{AreDivided, AreNumeratorsMade, AreNumeratorsWithin, numerator}
use Rattle.whole_rows.specs.Rows.{number_of, numerator_of, width_of}
use Rattle.whole_rows.proofs.DivisionSteps.{at_item, from_item, side_of}
use Rattle.whole_rows.proofs.MarkSteps.{covers_divided, covers_scaled, joined_covers, joined_covers_step}

-- the marks of a row and of a step are joined
module _ (row step : NarrowRow) (A B B' marks : List ℕ) (A_is : A ≡ step.marks.items)
    (B_is : B ≡ row.marks.items) (marks_are : marks ≡ B') (width : width_of step ≡ width_of row)
    (joined : AreMarksJoined A B B') where
  joined_is : AreMarksJoined step.marks.items row.marks.items B'
  joined_is = subst₂ (λ a b. AreMarksJoined a b B') A_is B_is joined

  pub joined_row : (N : List ℤ) → MarksCover row.marks.items N → length N ≡ width_of row
      → MarksCover marks N
  joined_row N covers long =
      subst (λ l. MarksCover l N) (sym marks_are)
      (joined_covers step.marks.items row.marks.items B' joined_is N step.numbers.items covers
      step.covers (width ∙ sym long))

  pub joined_step : MarksCover marks step.numbers.items
  joined_step =
      subst (λ l. MarksCover l step.numbers.items) (sym marks_are)
      (joined_covers_step step.marks.items row.marks.items B' joined_is row.numbers.items
      step.numbers.items row.covers step.covers width)

  pub scaled_covers : (over : ℤ) (N N' items : List ℤ) → N ≡ row.numbers.items → items ≡ N'
      → AreScaled over (length N) N N' → MarksCover marks items
  scaled_covers over N N' items N_is items_are scaled =
      let scaled_row : AreScaled over (width_of row) row.numbers.items N' =
      subst (λ l. AreScaled over (length l) l N') N_is scaled in
      subst (MarksCover marks) (sym items_are)
      (joined_row N' (covers_scaled over row.marks.items row.numbers.items N' row.covers scaled_row)
      scaled_row.long)

-- there are as many words of marks for a step as for a row of its columns
pub joined_long : (row step : NarrowRow) → width_of step ≡ width_of row
    → length step.marks.items ≡ length row.marks.items
joined_long row step width = step.marks_long ∙ ap words_of width ∙ sym row.marks_long

pub divided_covers : (row : NarrowRow) (by : ℤ) (N N' items : List ℤ) → N ≡ row.numbers.items
    → items ≡ N' → ¬ (by ≡ pos 0) → AreDivided by (length N) N N'
    → MarksCover row.marks.items items
divided_covers row by N N' items N_is items_are nonzero divided =
    subst (MarksCover row.marks.items) (sym items_are)
    (covers_divided by row.marks.items N N' nonzero
    (subst (MarksCover row.marks.items) (sym N_is) row.covers) divided)

-- there are as many words of marks as there were
pub long_kept : (row : NarrowRow) (items : List ℤ) (marks : List ℕ)
    → length marks ≡ length row.marks.items → length items ≡ width_of row
    → length marks ≡ words_of (length items)
long_kept row items marks e f = e ∙ row.marks_long ∙ ap words_of (sym f)

pub zero_number : (row : NarrowRow) (j : ℕ) → j < width_of row
    → slice_index_or row.numbers.items j (pos 0) ≡ pos 0 → number_of row j ≡ zero_ℚ
zero_number row j b z =
    ap (λ n. reduce n row.den) (get_or_default row.numbers.items j row.side (pos 0) b ∙ z)
    ∙ sym (over-zero_ℚ row.den row.above)

-- a numerator is put, and the bound is raised to its size
module _ (row : NarrowRow) (x : ℤ) (bound : ℕ) (small : unsigned_abs x ≤ bound)
    (more : row.bound ≤ bound) where
  raised : (j : ℕ) → unsigned_abs (numerator_of row j) ≤ bound
  raised j = most_lem (unsigned_abs (numerator_of row j)) row.bound bound (row.within.sizes j) more
    where
      most_lem : (a b c : ℕ) → a ≤ b → b ≤ c → a ≤ c
      most_lem a b c h k = omega (arith, h, k)

  item_raised : (j : ℕ) → unsigned_abs (slice_index_or row.numbers.items j (pos 0)) ≤ bound
  item_raised =
      at_item (λ z. unsigned_abs z ≤ bound) row.numbers.items row.side raised (omega arith)

  pub side_within : AreNumeratorsWithin bound row.numbers.items x
  side_within = record {
    sizes = from_item (λ z. unsigned_abs z ≤ bound) row.numbers.items x (λ j b. item_raised j) small;
  }

  pub put_within : (j : ℕ) → AreNumeratorsWithin bound (slice_set row.numbers.items j x) row.side
  put_within j = record {
    sizes = from_item (λ z. unsigned_abs z ≤ bound) (slice_set row.numbers.items j x) row.side
        (λ k b. same_or_other
        (unsigned_abs (slice_index_or (slice_set row.numbers.items j x) k (pos 0)) ≤ bound) k j
        (λ e. subst (λ z. unsigned_abs z ≤ bound) (sym (here_lem k b e)) small)
        (λ n. subst (λ z. unsigned_abs z ≤ bound)
        (sym (get_or-set_other row.numbers.items j k x (pos 0) n)) (item_raised k)))
        (side_of (λ z. unsigned_abs z ≤ bound) row.numbers.items row.side raised);
  }
    where
      here_lem : (k : ℕ) → k < length (slice_set row.numbers.items j x) → k ≡ j
          → slice_index_or (slice_set row.numbers.items j x) k (pos 0) ≡ x
      here_lem k b e =
          ap (λ i. slice_index_or (slice_set row.numbers.items j x) i (pos 0)) e
          ∙ get_or-set_same row.numbers.items j x (pos 0)
          (subst (λ i. i < width_of row) e
          (subst (λ n. k < n) (length-set row.numbers.items j x) b))

-- the numerators of a row that is copied, and its right side
pub copied_numerators : (row : NarrowRow) (old N items : List ℤ) (side : ℤ) → items ≡ N
    → AreNumeratorsMade (numerator_of row) (length old) old N → side ≡ numerator_of row (length old)
    → (j : ℕ) → j ≤ length old → numerator items side j ≡ numerator_of row j
copied_numerators row old N items side is made side_is j b = by_end (cases_lt j (length old))
  where
    long_lem : length items ≡ length old
    long_lem = ap length is ∙ made.long

    end_lem : (j n : ℕ) → j ≤ n → n ≤ j → n ≡ j
    end_lem j n x y = omega (arith, x, y)

    by_end : (j < length old) ⊎ (length old ≤ j) → numerator items side j ≡ numerator_of row j
    by_end (inl c) =
        get_or_default items j side (pos 0) (subst (λ n. j < n) (sym long_lem) c)
        ∙ ap (λ l. slice_index_or l j (pos 0)) is ∙ made.made j c
    by_end (inr h) =
        get_or_past items j side (subst (λ n. n ≤ j) (sym long_lem) h) ∙ side_is
        ∙ ap (numerator_of row) (end_lem j (length old) b h)
