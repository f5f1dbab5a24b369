-- A row that is lowered by a multiple of the step's numerators. The numbers and lists are given as
-- the code has them, with equations that say what they are.
use Rattle.std.specs.Prelude.{◌≡◌, ℕ, ◌+◌, ◌*◌, ◌^◌, ◌<◌, ◌≤◌, ◌⊎◌, List, length, slice_index_or, ℤ, pos, ◌+ℤ◌, neg_ℤ, unsigned_abs}
use Rattle.std.proofs.Common.{inl, inr, sym, ◌∙◌, ap, ap₂, arith, subst, subst₂}
use Rattle.std.proofs.Math.IntN.{+ℤ_idr}
use Rattle.std.proofs.lemmas.Bool.{cases_lt}
use Rattle.std.proofs.lemmas.List.{get_or_default, get_or_past}
use Rattle.ratio_core.specs.Rational.{reduce}
use Rattle.whole_rows.specs.declared.narrow_row.NarrowRow.{NarrowRow}
use Rattle.whole_rows.specs.ColumnMarks.{MarksCover}
use Rattle.whole_rows.specs.Listed.{lowered_once}
use Rattle.whole_rows.specs.Numerators.{AreNumeratorsLowered, AreNumeratorsWithin, LoweringFits, numerator}
use Rattle.whole_rows.specs.Rows.{CanLower, lowered_by, number_of, numerator_of, width_of}
use Rattle.whole_rows.proofs.BitLaws.{lowered_size}
use Rattle.whole_rows.proofs.MarkSteps.{covers_lowered, zero_times}
use Rattle.whole_rows.proofs.ListedSteps.{lowered_once_is}

item_lem : (x y u v b m : ℕ) → x ≡ u → y ≡ v → x + b * y ≤ m → m < 2 ^ 63 → u * 1 + b * v < 2 ^ 63
item_lem x y u v b m e f h k =
    subst₂ (λ s t. s * 1 + b * t < 2 ^ 63) e f (below_lem x (b * y) m h k)
  where
    below_lem : (x w m : ℕ) → x + w ≤ m → m < 2 ^ 63 → x * 1 + w < 2 ^ 63
    below_lem x w m h k = omega (arith, h, k)

side_lem : (x y u v b m : ℕ) → x ≡ u → y ≡ v → x + b * y ≤ m → m < 2 ^ 63 → u + b * v < 2 ^ 63
side_lem x y u v b m e f h k =
    subst₂ (λ s t. s + b * t < 2 ^ 63) e f (below_lem x (b * y) m h k)
  where
    below_lem : (x w m : ℕ) → x + w ≤ m → m < 2 ^ 63 → x + w < 2 ^ 63
    below_lem x w m h k = omega (arith, h, k)

at_most_lem : (y z x w m : ℕ) → y ≡ z → z ≤ x * 1 + w → x + w ≤ m → y ≤ m
at_most_lem y z x w m e h k = omega (arith, e, h, k)

module _ (step row : NarrowRow) (by : ℤ) (can : CanLower step row by) where
  pub once_fits : (N n : List ℤ) → N ≡ row.numbers.items → n ≡ step.numbers.items
      → LoweringFits 1 by n N
  once_fits N n N_is n_is =
      subst₂ (λ x y. LoweringFits 1 by x y) (sym n_is) (sym N_is)
      (λ j b. item_lem (unsigned_abs (numerator_of row j)) (unsigned_abs (numerator_of step j))
      (unsigned_abs (slice_index_or row.numbers.items j (pos 0)))
      (unsigned_abs (slice_index_or step.numbers.items j (pos 0))) (unsigned_abs by) row.bound
      (ap unsigned_abs (get_or_default row.numbers.items j row.side (pos 0) b))
      (ap unsigned_abs (get_or_default step.numbers.items j step.side (pos 0)
      (subst (λ k. j < k) (sym can.width) b)))
      (can.within j) row.small_bound)

  pub once_side : (s u : ℤ) → s ≡ row.side → u ≡ step.side
      → unsigned_abs s + unsigned_abs by * unsigned_abs u < 2 ^ 63
  once_side s u s_is u_is =
      side_lem (unsigned_abs (numerator_of row (width_of row)))
      (unsigned_abs (numerator_of step (width_of row))) (unsigned_abs s) (unsigned_abs u)
      (unsigned_abs by) row.bound
      (ap unsigned_abs
      (get_or_past row.numbers.items (width_of row) row.side (omega arith) ∙ sym s_is))
      (ap unsigned_abs
      (get_or_past step.numbers.items (width_of row) step.side (omega (arith, can.width))
      ∙ sym u_is))
      (can.within (width_of row)) row.small_bound

  module _ (N n N' items : List ℤ) (s u side : ℤ) (N_is : N ≡ row.numbers.items)
      (n_is : n ≡ step.numbers.items) (s_is : s ≡ row.side) (u_is : u ≡ step.side)
      (lowered : AreNumeratorsLowered 1 by n (length N) N N') (items_are : items ≡ N')
      (side_is : side ≡ lowered_once s by u) where
    lowered_items : AreNumeratorsLowered 1 by step.numbers.items (width_of row) row.numbers.items items
    lowered_items =
        subst (AreNumeratorsLowered 1 by step.numbers.items (width_of row) row.numbers.items) (sym items_are)
        (subst₂ (λ x y. AreNumeratorsLowered 1 by x (length y) y N') n_is N_is lowered)

    once_numerator : (j : ℕ) → numerator items side j
        ≡ lowered_once (numerator_of row j) by (numerator_of step j)
    once_numerator j = by_end (cases_lt j (width_of row))
      where
        by_end : (j < width_of row) ⊎ (width_of row ≤ j) → numerator items side j
            ≡ lowered_once (numerator_of row j) by (numerator_of step j)
        by_end (inl b) =
            get_or_default items j side (pos 0) (subst (λ k. j < k) (sym lowered_items.long) b)
            ∙ lowered_items.lowered j b
            ∙ sym (lowered_once_is (slice_index_or row.numbers.items j (pos 0)) by
            (slice_index_or step.numbers.items j (pos 0)))
            ∙ ap₂ (λ x y. lowered_once x by y)
            (sym (get_or_default row.numbers.items j row.side (pos 0) b))
            (sym (get_or_default step.numbers.items j step.side (pos 0)
            (subst (λ k. j < k) (sym can.width) b)))
        by_end (inr h) =
            get_or_past items j side (subst (λ k. k ≤ j) (sym lowered_items.long) h) ∙ side_is
            ∙ ap₂ (λ x y. lowered_once x by y)
            (s_is ∙ sym (get_or_past row.numbers.items j row.side h))
            (u_is ∙ sym (get_or_past step.numbers.items j step.side
            (subst (λ k. k ≤ j) (sym can.width) h)))

    pub once_within : AreNumeratorsWithin row.bound items side
    once_within = record {
      sizes = λ j. at_most_lem (unsigned_abs (numerator items side j)) _
          (unsigned_abs (numerator_of row j))
          (unsigned_abs by * unsigned_abs (numerator_of step j)) row.bound
          (ap unsigned_abs (once_numerator j
          ∙ lowered_once_is (numerator_of row j) by (numerator_of step j)))
          (lowered_size (numerator_of row j) 1 by (numerator_of step j)) (can.within j);
    }

    pub once_covers : MarksCover row.marks.items items
    once_covers =
        subst (MarksCover row.marks.items) (sym items_are)
        (covers_lowered 1 by row.marks.items N n N'
        (subst (MarksCover row.marks.items) (sym N_is) row.covers)
        (subst (MarksCover row.marks.items) (sym n_is) can.covers) lowered)

    pub once_lowered : (j : ℕ) → reduce (numerator items side j) row.den ≡ lowered_by step row by j
    once_lowered j = ap (λ z. reduce z row.den) (once_numerator j)

-- nothing is to be done where the multiple is 0
pub lowered_none : (step row : NarrowRow) (by : ℤ) → by ≡ pos 0 → (j : ℕ)
    → lowered_by step row by j ≡ number_of row j
lowered_none step row by e j =
    ap (λ b. lowered_by step row b j) e
    ∙ ap (λ z. reduce z row.den) (once_none (numerator_of row j) (numerator_of step j))
  where
    once_none : (N n : ℤ) → lowered_once N (pos 0) n ≡ N
    once_none N n = ap (λ x. N +ℤ neg_ℤ x) (zero_times n) ∙ +ℤ_idr N
