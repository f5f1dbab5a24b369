-- The columns of a word that are noted, from the lowest on.
use Rattle.std.specs.Prelude.{◌≡◌, ℕ, zero, suc, ◌+◌, ◌-◌, ◌*◌, ◌/◌, ◌<◌, ◌≤◌, Bool, false, nat_eq, List, length, min, slice_index_or, slice_set, ℤ, pos, refl}
use Rattle.std.proofs.Common.{sym, ◌∙◌, add-zero, ap, arith, subst}
use Rattle.std.specs.Int.{bit_at}
use Rattle.simplex_laws.specs.BoundedSumLaws.{same_or_other}
use Rattle.whole_rows.specs.Bits.{IsBitCleared, IsLowestBit}
use Rattle.whole_rows.specs.ColumnMarks.{WordCovers}
use Rattle.whole_rows.specs.Listed.{IsNotedTo}
use Rattle.whole_rows.proofs.BitSteps.{IsRest, rest_end, rest_next, rest_order, rest_passed, rest_set, rest_whole}
use Rattle.whole_rows.proofs.ListedSteps.{noted_next, noted_skip}

-- those with a bit below `place` are noted, and bits of zeros may be cleared in `kept`
pub record IsWordNoted (numbers : List ℤ) (columns : List ℕ) (used start word rest kept : ℕ) :
    Type 0 where
  pub place : ℕ
  pub low : place ≤ 64
  pub left : IsRest word rest place
  pub noted : IsNotedTo numbers columns used (start + place)
  pub covers : WordCovers kept start numbers

pub word_noted_first : (numbers : List ℤ) (columns : List ℕ) (used start word : ℕ)
    → WordCovers word start numbers → IsNotedTo numbers columns used start
    → IsWordNoted numbers columns used start word word word
word_noted_first numbers columns used start word covers noted = record {
  place = 0;
  low = omega arith;
  left = rest_whole word;
  noted = subst (IsNotedTo numbers columns used) (sym (add-zero start)) noted;
  covers = covers;
}

-- zeros of a word, by place in the row
zeros_lem : (numbers : List ℤ) (start word : ℕ) → WordCovers word start numbers
    → (from to : ℕ) → to ≤ 64 → ((i : ℕ) → from ≤ i → i < to → bit_at word i ≡ 0)
    → (j : ℕ) → start + from ≤ j → j < start + to → slice_index_or numbers j (pos 0) ≡ pos 0
zeros_lem numbers start word covers from to low zeros j a b =
    subst (λ k. slice_index_or numbers k (pos 0) ≡ pos 0) (place_lem j start from a)
    (covers.unset (j - start) (small_lem j start to b low)
    (zeros (j - start) (from_lem j start from a) (below_lem j start from to a b)))
  where
    place_lem : (j s f : ℕ) → s + f ≤ j → s + (j - s) ≡ j
    place_lem j s f a = omega (arith, a)

    small_lem : (j s t : ℕ) → j < s + t → t ≤ 64 → j - s < 64
    small_lem j s t b c = omega (arith, b, c)

    from_lem : (j s f : ℕ) → s + f ≤ j → f ≤ j - s
    from_lem j s f a = omega (arith, a)

    below_lem : (j s f t : ℕ) → s + f ≤ j → j < s + t → j - s < t
    below_lem j s f t a b = omega (arith, a, b)

module _ (numbers : List ℤ) (columns : List ℕ) (used start word rest kept bit : ℕ)
    (covers : WordCovers word start numbers)
    (h : IsWordNoted numbers columns used start word rest kept) (is : IsLowestBit rest bit) where
  pub noted_below : start + bit < length numbers
  noted_below = covers.within bit is.within (rest_set word rest h.place bit h.left is)

  noted_here : IsNotedTo numbers columns used (start + bit)
  noted_here =
      noted_skip numbers columns used (start + h.place) (start + bit) h.noted
      (add_lem start h.place bit (rest_order word rest h.place bit h.left is))
      (less_lem (start + bit) (length numbers) noted_below)
      (zeros_lem numbers start word covers h.place bit (less_lem bit 64 is.within)
      (rest_passed word rest h.place bit h.left is))
    where
      add_lem : (s a b : ℕ) → a ≤ b → s + a ≤ s + b
      add_lem s a b c = omega (arith, c)

      less_lem : (a b : ℕ) → a < b → a ≤ b
      less_lem a b c = omega (arith, c)

  pub word_noted_next : (next new count : ℕ) (clears : Bool) → IsBitCleared bit rest next
      → count ≤ 1 → (count ≡ 0 → slice_index_or numbers (start + bit) (pos 0) ≡ pos 0)
      → (count ≡ 1 → ¬ (slice_index_or numbers (start + bit) (pos 0) ≡ pos 0))
      → clears ≡ nat_eq count 0 → (clears ≡ false → bit_at new bit ≡ bit_at kept bit)
      → ((i : ℕ) → i < 64 → ¬ (i ≡ bit) → bit_at new i ≡ bit_at kept i)
      → IsWordNoted numbers (slice_set columns used (start + bit)) (used + count) start word next new
  word_noted_next next new count clears cleared few none one clears_is stays others = record {
    place = bit + 1;
    low = next_low bit is.within;
    left = rest_next word rest h.place bit h.left is next cleared;
    noted =
        subst (IsNotedTo numbers (slice_set columns used (start + bit)) (used + count))
        (next_lem start bit)
        (noted_next numbers columns used (start + bit) count noted_here noted_below few none one);
    covers = record {
      unset = λ i b e. same_or_other (slice_index_or numbers (start + i) (pos 0) ≡ pos 0) i bit
          (λ f. subst (λ k. slice_index_or numbers (start + k) (pos 0) ≡ pos 0) (sym f)
          (by_count count few none clears_is (ap (bit_at new) (sym f) ∙ e)))
          (λ n. h.covers.unset i b (sym (others i b n) ∙ e));
      within = λ i b e. same_or_other (start + i < length numbers) i bit
          (λ f. subst (λ k. start + k < length numbers) (sym f) noted_below)
          (λ n. h.covers.within i b (sym (others i b n) ∙ e));
    };
  }
    where
      next_low : (b : ℕ) → b < 64 → b + 1 ≤ 64
      next_low b c = omega (arith, c)

      next_lem : (s b : ℕ) → (s + b) + 1 ≡ s + (b + 1)
      next_lem s b = omega arith

      by_count : (n : ℕ) → n ≤ 1
          → (n ≡ 0 → slice_index_or numbers (start + bit) (pos 0) ≡ pos 0)
          → clears ≡ nat_eq n 0 → bit_at new bit ≡ 0
          → slice_index_or numbers (start + bit) (pos 0) ≡ pos 0
      by_count zero f z c e = z refl
      by_count (suc zero) f z c e = h.covers.unset bit is.within (sym (stays c) ∙ e)
      by_count (suc (suc n)) f z c e = absurd (omega (arith, f))

pub word_noted_end : (numbers : List ℤ) (columns : List ℕ) (used start word rest kept : ℕ)
    → WordCovers word start numbers → IsWordNoted numbers columns used start word rest kept
    → rest ≡ 0 → IsNotedTo numbers columns used (min (start + 64) (length numbers))
word_noted_end numbers columns used start word rest kept covers h none =
    noted_skip numbers columns used (start + h.place) (min (start + 64) (length numbers)) h.noted
    (past_lem start h.place (length numbers) h.low h.noted.row_end) (min_lem start (length numbers))
    (λ j a b. zeros_lem numbers start word covers h.place 64 (omega arith)
    (λ i c d. rest_end word rest h.place h.left none i c) j a (below_lem j start (length numbers) b))
  where
    past_lem : (s p n : ℕ) → p ≤ 64 → s + p ≤ n → s + p ≤ min (s + 64) n
    past_lem s p n a b = omega (arith, a, b)

    min_lem : (s n : ℕ) → min (s + 64) n ≤ n
    min_lem s n = omega arith

    below_lem : (j s n : ℕ) → j < min (s + 64) n → j < s + 64
    below_lem j s n b = omega (arith, b)

-- ---- word by word

-- the columns of all words before the k-th are columns of the row
pub words_before : (w n k : ℕ) → n ≡ w / 64 + 1 → k < n → min (k * 64) w ≡ k * 64
words_before w n k e b = omega (arith, e, b)

pub word_after : (w k : ℕ) → min (k * 64 + 64) w ≡ min ((k + 1) * 64) w
word_after w k = omega arith

pub words_all : (w n k : ℕ) → n ≡ w / 64 + 1 → n ≤ k → min (k * 64) w ≡ w
words_all w n k e b = omega (arith, e, b)
