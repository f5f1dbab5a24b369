-- Numbers that are made 0 where they aren't, and what a row of zeros keeps.
use Rattle.std.specs.Prelude.{◌≡◌, ℕ, ◌+◌, ◌<◌, ◌≤◌, ◌⊎◌, List, length, map, slice_index, slice_index_or, slice_set, ℤ, pos, refl, unsigned_abs}
use Rattle.std.proofs.Common.{inl, inr, sym, ◌∙◌, ap, arith, subst}
use Rattle.std.proofs.Math.IntN.{*ℤ-zero}
use Rattle.std.proofs.lemmas.Bool.{cases_lt}
use Rattle.std.proofs.lemmas.List.{get_or-set_other, get_or-set_same, get_or_past, length-set}
use Rattle.simplex_laws.specs.BoundedSumLaws.{same_or_other}
use Rattle.whole_rows.specs.ColumnMarks.{AreScaled, MarksCover}
use Rattle.whole_rows.specs.declared.narrow_row.NarrowRow.{NarrowRow}
use Rattle.whole_rows.specs.Listed.{AreZeros, ListsNonzeros}
use Rattle.whole_rows.specs.Numerators.{AreNumeratorsWithin}
use Rattle.whole_rows.proofs.DivisionSteps.{from_item, side_of}
use Rattle.whole_rows.proofs.JoiningSteps.{word_number, words_long}
use Rattle.whole_rows.proofs.ListedSteps.{sought}

-- ---- numbers of listed columns

-- column j is listed at place n or behind it
abbrev pub IsLeftAt : List ℕ → ℕ → ℕ → Type 0
IsLeftAt columns n j = (k : ℕ) × (n ≤ k) × (k < length columns) × (slice_index columns k ≡ j)

-- each number is 0, or of a column that is left
pub record AreLeftFrom (columns : List ℕ) (n : ℕ) (old now : List ℤ) : Type 0 where
  pub long : length now ≡ length old
  pub left : (j : ℕ) → (slice_index_or now j (pos 0) ≡ pos 0) ⊎ IsLeftAt columns n j

pub left_first : (columns : List ℕ) (old : List ℤ) → ListsNonzeros columns old
    → AreLeftFrom columns 0 old old
left_first columns old lists = record {
  long = refl;
  left = λ j. by_end j (cases_lt j (length old));
}
  where
    by_place : (j : ℕ) → j < length old
        → ((k : ℕ) × (k < length columns) × (slice_index columns k ≡ j))
        ⊎ ((k : ℕ) → k < length columns → ¬ (slice_index columns k ≡ j))
        → (slice_index_or old j (pos 0) ≡ pos 0) ⊎ IsLeftAt columns 0 j
    by_place j b (inl f) = inr (f.0, omega arith, f.1, f.2)
    by_place j b (inr none) = inl (lists.others j b none)

    by_end : (j : ℕ) → (j < length old) ⊎ (length old ≤ j)
        → (slice_index_or old j (pos 0) ≡ pos 0) ⊎ IsLeftAt columns 0 j
    by_end j (inl b) = by_place j b (sought columns j (length columns))
    by_end j (inr b) = inl (get_or_past old j (pos 0) b)

pub left_next : (columns : List ℕ) (n : ℕ) (old now : List ℤ) (x : ℤ)
    → AreLeftFrom columns n old now → slice_index columns n < length now → x ≡ pos 0
    → AreLeftFrom columns (n + 1) old (slice_set now (slice_index columns n) x)
left_next columns n old now x h within is = record {
  long = length-set now (slice_index columns n) x ∙ h.long;
  left = λ j. same_or_other
      ((slice_index_or new j (pos 0) ≡ pos 0) ⊎ IsLeftAt columns (n + 1) j) j
      (slice_index columns n)
      (λ e. inl (ap (λ i. slice_index_or new i (pos 0)) e
      ∙ get_or-set_same now (slice_index columns n) x (pos 0) within ∙ is))
      (λ m. by_left j m (h.left j));
}
  where
    new : List ℤ
    new = slice_set now (slice_index columns n) x

    next_lem : (n k : ℕ) → n ≤ k → ¬ (k ≡ n) → n + 1 ≤ k
    next_lem n k a m = omega (arith, a, m)

    by_left : (j : ℕ) → ¬ (j ≡ slice_index columns n)
        → (slice_index_or now j (pos 0) ≡ pos 0) ⊎ IsLeftAt columns n j
        → (slice_index_or new j (pos 0) ≡ pos 0) ⊎ IsLeftAt columns (n + 1) j
    by_left j m (inl z) = inl (get_or-set_other now (slice_index columns n) j x (pos 0) m ∙ z)
    by_left j m (inr f) = inr (
      f.0,
      next_lem n f.0 f.1 (λ e. m (sym f.3 ∙ ap (slice_index columns) e)),
      f.2,
      f.3,
    )

pub left_none : (columns : List ℕ) (n : ℕ) (old now : List ℤ) → AreLeftFrom columns n old now
    → length columns ≤ n → (j : ℕ) → slice_index_or now j (pos 0) ≡ pos 0
left_none columns n old now h past j = by_left (h.left j)
  where
    none_lem : (n k m : ℕ) → n ≤ k → k < m → m ≤ n → ⊥
    none_lem n k m a b c = omega (arith, a, b, c)

    by_left : (slice_index_or now j (pos 0) ≡ pos 0) ⊎ IsLeftAt columns n j
        → slice_index_or now j (pos 0) ≡ pos 0
    by_left (inl z) = z
    by_left (inr f) = absurd (none_lem n f.0 (length columns) f.1 f.2 past)

-- ---- numbers that are marked

-- multiplied by 0
pub scaled_zeros : (old new : List ℤ) → AreScaled (pos 0) (length old) old new → (j : ℕ)
    → slice_index_or new j (pos 0) ≡ pos 0
scaled_zeros old new scaled j = by_end (cases_lt j (length old))
  where
    by_end : (j < length old) ⊎ (length old ≤ j) → slice_index_or new j (pos 0) ≡ pos 0
    by_end (inl b) = scaled.scaled j b ∙ *ℤ-zero (slice_index_or old j (pos 0))
    by_end (inr b) = scaled.others j b ∙ get_or_past old j (pos 0) b

-- words without a mark, as whole numbers
pub words_zeros : (marks : List ℕ) → ((k : ℕ) → slice_index marks k ≡ 0) → (k : ℕ)
    → slice_index_or (map pos marks) k (pos 0) ≡ pos 0
words_zeros marks none k = by_end (cases_lt k (length marks))
  where
    by_end : (k < length marks) ⊎ (length marks ≤ k)
        → slice_index_or (map pos marks) k (pos 0) ≡ pos 0
    by_end (inl b) = word_number marks k b ∙ ap pos (none k)
    by_end (inr b) =
        get_or_past (map pos marks) k (pos 0) (subst (λ n. n ≤ k) (sym (words_long marks)) b)

-- ---- a row of zeros

-- beside the row's right side
pub zeros_within : (row : NarrowRow) (items : List ℤ) → AreZeros items
    → AreNumeratorsWithin row.bound items row.side
zeros_within row items zeros = record {
  sizes = from_item (λ z. unsigned_abs z ≤ row.bound) items row.side
      (λ j b. subst (λ z. unsigned_abs z ≤ row.bound) (sym (zeros j)) (omega arith))
      (side_of (λ z. unsigned_abs z ≤ row.bound) row.numbers.items row.side row.within.sizes);
}

-- under the marks that it had
pub zeros_covered : (marks : List ℕ) (old items : List ℤ) → MarksCover marks old
    → length items ≡ length old → AreZeros items → MarksCover marks items
zeros_covered marks old items covers long zeros = record {
  unmarked = λ j e. zeros j;
  within = λ j e. subst (λ n. j < n) (sym long) (covers.within j e);
}
