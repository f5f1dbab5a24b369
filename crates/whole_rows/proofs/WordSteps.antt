-- Numbers that are changed at the bits of a word, one after another, and word by word.
use Rattle.std.specs.Prelude.{◌≡◌, ℕ, ◌+◌, ◌-◌, ◌*◌, ◌/◌, ◌<◌, ◌≤◌, ◌⊎◌, List, length, slice_index_or, slice_set, ℤ, pos, ◌*ℤ◌, refl}
use Rattle.std.proofs.Common.{inl, inr, sym, ◌∙◌, ap, arith, subst}
use Rattle.std.specs.Int.{bit_at}
use Rattle.std.proofs.lemmas.Bool.{cases_lt}
use Rattle.std.proofs.lemmas.List.{get_or-set_other, get_or-set_same, get_or_past, length-set}
use Rattle.std.proofs.lemmas.Nat.Bits.{bit_at-zero}
use Rattle.simplex_laws.specs.BoundedSumLaws.{same_or_other}
use Rattle.whole_rows.specs.Bits.{IsBitCleared, IsLowestBit}
use Rattle.whole_rows.specs.ColumnMarks.{AreScaled, IsRangeChanged, IsWordChanged, WordCovers}
use Rattle.whole_rows.specs.Numerators.{AreShrunk}
use Rattle.whole_rows.specs.Over.{lowered_num}
use Rattle.whole_rows.proofs.BitSteps.{one_zero}
use Rattle.whole_rows.proofs.MarkSteps.{lowered_zeros, zero_times}

-- of the 64 numbers from `start` on those without a bit in `rest` are changed to such
pub record IsWordLeft (P : ℕ → ℤ → Type 0) (start rest : ℕ) (old new : List ℤ) : Type 0 where
  pub long : length new ≡ length old
  pub within : (i : ℕ) → i < 64 → bit_at rest i ≡ 1 → start + i < length old
  pub left : (i : ℕ) → i < 64 → bit_at rest i ≡ 1
      → slice_index_or new (start + i) (pos 0) ≡ slice_index_or old (start + i) (pos 0)
  pub changed : (i : ℕ) → i < 64 → bit_at rest i ≡ 0
      → P (start + i) (slice_index_or new (start + i) (pos 0))
  pub before : (j : ℕ) → j < start → slice_index_or new j (pos 0) ≡ slice_index_or old j (pos 0)
  pub after : (j : ℕ) → start + 64 ≤ j →
      slice_index_or new j (pos 0) ≡ slice_index_or old j (pos 0)

pub word_first : (P : ℕ → ℤ → Type 0) (start word : ℕ) (old : List ℤ) → WordCovers word start old
    → ((i : ℕ) → i < 64 → bit_at word i ≡ 0 → P (start + i) (slice_index_or old (start + i) (pos 0)))
    → IsWordLeft P start word old old
word_first P start word old covers unset = record {
  long = refl;
  within = covers.within;
  left = λ i b e. refl;
  changed = unset;
  before = λ j b. refl;
  after = λ j b. refl;
}

module _ (P : ℕ → ℤ → Type 0) (start rest bit : ℕ) (old now : List ℤ)
    (h : IsWordLeft P start rest old now) (is : IsLowestBit rest bit) where
  pub word_within : start + bit < length now
  word_within = subst (λ n. start + bit < n) (sym h.long) (h.within bit is.within is.set)

  -- what is read there is as it was
  pub word_read : slice_index_or now (start + bit) (pos 0)
      ≡ slice_index_or old (start + bit) (pos 0)
  word_read = h.left bit is.within is.set

  pub word_next : (next : ℕ) (x : ℤ) → IsBitCleared bit rest next → P (start + bit) x
      → IsWordLeft P start next old (slice_set now (start + bit) x)
  word_next next x cleared made = record {
    long = length-set now (start + bit) x ∙ h.long;
    within = λ i b e. h.within i b (set_lem i e);
    left = λ i b e. get_or-set_other now (start + bit) (start + i) x (pos 0) (apart_lem i e)
        ∙ h.left i b (set_lem i e);
    changed = λ i b e. same_or_other
        (P (start + i) (slice_index_or (slice_set now (start + bit) x) (start + i) (pos 0))) i bit
        (λ f. subst (λ k. P (start + k)
        (slice_index_or (slice_set now (start + bit) x) (start + k) (pos 0))) (sym f)
        (subst (P (start + bit)) (sym (get_or-set_same now (start + bit) x (pos 0) word_within))
        made))
        (λ n. subst (P (start + i))
        (sym (get_or-set_other now (start + bit) (start + i) x (pos 0) (other_lem i n)))
        (h.changed i b (sym (cleared.others i n) ∙ e)));
    before = λ j b. get_or-set_other now (start + bit) j x (pos 0) (before_lem j b) ∙ h.before j b;
    after = λ j b. get_or-set_other now (start + bit) j x (pos 0) (after_lem j b is.within)
        ∙ h.after j b;
  }
    where
      own_lem : (i : ℕ) → bit_at next i ≡ 1 → ¬ (i ≡ bit)
      own_lem i e f = one_zero _ e (ap (bit_at next) f ∙ cleared.here)

      set_lem : (i : ℕ) → bit_at next i ≡ 1 → bit_at rest i ≡ 1
      set_lem i e = sym (cleared.others i (own_lem i e)) ∙ e

      other_lem : (i : ℕ) → ¬ (i ≡ bit) → ¬ (start + i ≡ start + bit)
      other_lem i n e = n (omega (arith, e))

      apart_lem : (i : ℕ) → bit_at next i ≡ 1 → ¬ (start + i ≡ start + bit)
      apart_lem i e = other_lem i (own_lem i e)

      before_lem : (j : ℕ) → j < start → ¬ (j ≡ start + bit)
      before_lem j b e = omega (arith, b, e)

      after_lem : (j : ℕ) → start + 64 ≤ j → bit < 64 → ¬ (j ≡ start + bit)
      after_lem j b c e = omega (arith, b, c, e)

pub word_end : (P : ℕ → ℤ → Type 0) (start rest : ℕ) (old new : List ℤ)
    → IsWordLeft P start rest old new → rest ≡ 0 → IsWordChanged P start old new
word_end P start rest old new h none = record {
  long = h.long;
  changed = λ i b. h.changed i b (ap (λ x. bit_at x i) none ∙ bit_at-zero i);
  before = h.before;
  after = h.after;
}

-- ---- word by word

-- the first n numbers are changed to such, and each other is as it was
pub record AreColumnsChanged (P : ℕ → ℤ → Type 0) (n : ℕ) (old new : List ℤ) : Type 0 where
  pub long : length new ≡ length old
  pub changed : (j : ℕ) → j < n → P j (slice_index_or new j (pos 0))
  pub others : (j : ℕ) → n ≤ j → slice_index_or new j (pos 0) ≡ slice_index_or old j (pos 0)

pub columns_none : (P : ℕ → ℤ → Type 0) (old : List ℤ) → AreColumnsChanged P 0 old old
columns_none P old = record {
  long = refl;
  changed = λ j b. absurd (omega (arith, b));
  others = λ j b. refl;
}

pub columns_word : (P Q : ℕ → ℤ → Type 0) (start next_start : ℕ) (old now next : List ℤ)
    → AreColumnsChanged P start old now → IsWordChanged Q start now next
    → ((j : ℕ) (x : ℤ) → start ≤ j → Q j x → P j x) → next_start ≡ start + 64
    → AreColumnsChanged P next_start old next
columns_word P Q start next_start old now next h word turned end = record {
  long = word.long ∙ h.long;
  changed = λ j b. by_place j (subst (λ n. j < n) end b) (cases_lt j start);
  others = λ j b. word.after j (subst (λ n. n ≤ j) end b)
      ∙ h.others j (above_lem j start (subst (λ n. n ≤ j) end b));
}
  where
    above_lem : (j n : ℕ) → n + 64 ≤ j → n ≤ j
    above_lem j n b = omega (arith, b)

    place_lem : (j n : ℕ) → n ≤ j → n + (j - n) ≡ j
    place_lem j n b = omega (arith, b)

    small_lem : (j n : ℕ) → n ≤ j → j < n + 64 → j - n < 64
    small_lem j n b c = omega (arith, b, c)

    by_place : (j : ℕ) → j < start + 64 → (j < start) ⊎ (start ≤ j)
        → P j (slice_index_or next j (pos 0))
    by_place j b (inl c) = subst (P j) (sym (word.before j c)) (h.changed j c)
    by_place j b (inr c) =
        subst (λ k. P k (slice_index_or next k (pos 0))) (place_lem j start c)
        (turned (start + (j - start)) _ (omega arith) (word.changed (j - start) (small_lem j start c b)))

-- a number past the end is 0, and stays so
module _ (P : ℕ → ℤ → Type 0) (n : ℕ) (old new : List ℤ) (h : AreColumnsChanged P n old new) where
  others_lem : (j : ℕ) → length old ≤ j
      → slice_index_or new j (pos 0) ≡ slice_index_or old j (pos 0)
  others_lem j b =
      get_or_past new j (pos 0) (subst (λ m. m ≤ j) (sym h.long) b)
      ∙ sym (get_or_past old j (pos 0) b)

-- how many columns all words have
pub words_past : (w n k : ℕ) → n ≡ w / 64 + 1 → n ≤ k → w ≤ k * 64
words_past w n k e b = omega (arith, e, b)

pub word_start : (w n k : ℕ) → n ≡ w / 64 + 1 → k < n → k * 64 ≤ w
word_start w n k e b = omega (arith, e, b)

-- ---- numbers that are multiplied

abbrev pub ScaledTo : ℤ → List ℤ → ℕ → ℤ → Type 0
ScaledTo over old j x = x ≡ slice_index_or old j (pos 0) *ℤ over

pub scaled_first : (over : ℤ) (start word : ℕ) (old : List ℤ) → WordCovers word start old
    → IsWordLeft (ScaledTo over old) start word old old
scaled_first over start word old covers =
    word_first (ScaledTo over old) start word old covers
    (λ i b e. covers.unset i b e ∙ sym (ap (λ x. x *ℤ over) (covers.unset i b e) ∙ zero_times over))

pub scaled_word : (over : ℤ) (start next_start : ℕ) (old now next : List ℤ)
    → AreColumnsChanged (ScaledTo over old) start old now
    → IsWordChanged (ScaledTo over now) start now next → next_start ≡ start + 64
    → AreColumnsChanged (ScaledTo over old) next_start old next
scaled_word over start next_start old now next h word end =
    columns_word (ScaledTo over old) (ScaledTo over now) start next_start old now next h word
    (λ j x b e. e ∙ ap (λ y. y *ℤ over) (h.others j b)) end

pub scaled_all : (over : ℤ) (n : ℕ) (old new : List ℤ)
    → AreColumnsChanged (ScaledTo over old) n old new → length old ≤ n
    → AreScaled over (length old) old new
scaled_all over n old new h past = record {
  long = h.long;
  scaled = λ j b. h.changed j (below_lem j (length old) n b past);
  others = λ j b. others_lem (ScaledTo over old) n old new h j b;
}
  where
    below_lem : (a b c : ℕ) → a < b → b ≤ c → a < c
    below_lem a b c x y = omega (arith, x, y)

-- ---- numbers that are lowered and divided

abbrev pub ShrunkTo : ℕ → ℤ → List ℤ → ℕ → List ℤ → ℕ → ℤ → Type 0
ShrunkTo over by step common old j x =
    lowered_num (slice_index_or old j (pos 0)) over by (slice_index_or step j (pos 0))
    ≡ x *ℤ pos common

pub shrunk_first : (over : ℕ) (by : ℤ) (step : List ℤ) (common start word : ℕ) (old : List ℤ)
    → WordCovers word start old → WordCovers word start step
    → IsWordLeft (ShrunkTo over by step common old) start word old old
shrunk_first over by step common start word old covers step_covers =
    word_first (ShrunkTo over by step common old) start word old covers (λ i b e.
    (λ k. lowered_num (covers.unset i b e k) over by (step_covers.unset i b e k))
    ∙ lowered_zeros over by
    ∙ sym (ap (λ x. x *ℤ pos common) (covers.unset i b e) ∙ zero_times (pos common)))

pub shrunk_word : (over : ℕ) (by : ℤ) (step : List ℤ) (common start next_start : ℕ)
    (old now next : List ℤ) → AreColumnsChanged (ShrunkTo over by step common old) start old now
    → IsWordChanged (ShrunkTo over by step common now) start now next → next_start ≡ start + 64
    → AreColumnsChanged (ShrunkTo over by step common old) next_start old next
shrunk_word over by step common start next_start old now next h word end =
    columns_word (ShrunkTo over by step common old) (ShrunkTo over by step common now) start
    next_start old now next h word
    (λ j x b e. ap (λ y. lowered_num y over by (slice_index_or step j (pos 0)))
    (sym (h.others j b)) ∙ e) end

pub shrunk_all : (over : ℕ) (by : ℤ) (step : List ℤ) (common n : ℕ) (old new : List ℤ)
    → AreColumnsChanged (ShrunkTo over by step common old) n old new → length old ≤ n
    → AreShrunk over by step common (length old) old new
shrunk_all over by step common n old new h past = record {
  long = h.long;
  shrunk = λ j b. h.changed j (below_lem j (length old) n b past);
  others = λ j b. others_lem (ShrunkTo over by step common old) n old new h j b;
}
  where
    below_lem : (a b c : ℕ) → a < b → b ≤ c → a < c
    below_lem a b c x y = omega (arith, x, y)

-- ---- a range of columns

pub range_none : (P : ℕ → ℤ → Type 0) (start : ℕ) (old : List ℤ) → IsRangeChanged P start start old old
range_none P start old = record {
  long = refl;
  changed = λ j b c. absurd (omega (arith, b, c));
  before = λ j b. refl;
  after = λ j b. refl;
}

module _ (P : ℕ → ℤ → Type 0) (start j : ℕ) (old now : List ℤ)
    (h : IsRangeChanged P start j old now) where
  pub range_next : (x : ℤ) → start ≤ j → j < length now → P j x
      → IsRangeChanged P start (j + 1) old (slice_set now j x)
  range_next x past within made = record {
    long = length-set now j x ∙ h.long;
    changed = λ i b c. same_or_other (P i (slice_index_or (slice_set now j x) i (pos 0))) i j
        (λ e. subst (λ k. P k (slice_index_or (slice_set now j x) k (pos 0))) (sym e)
        (subst (P j) (sym (get_or-set_same now j x (pos 0) within)) made))
        (λ n. subst (P i) (sym (get_or-set_other now j i x (pos 0) n))
        (h.changed i b (less_lem i j c n)));
    before = λ i b. get_or-set_other now j i x (pos 0) (before_lem i b) ∙ h.before i b;
    after = λ i b. get_or-set_other now j i x (pos 0) (after_lem i j b)
        ∙ h.after i (omega (arith, b));
  }
    where
      less_lem : (i j : ℕ) → i < j + 1 → ¬ (i ≡ j) → i < j
      less_lem i j b n = omega (arith, b, n)

      before_lem : (i : ℕ) → i < start → ¬ (i ≡ j)
      before_lem i b e = omega (arith, b, e, past)

      after_lem : (i j : ℕ) → j + 1 ≤ i → ¬ (i ≡ j)
      after_lem i j b e = omega (arith, b, e)

-- the columns of a word are multiplied; past the end there are none
pub scaled_range : (over : ℤ) (start end : ℕ) (old new : List ℤ)
    → IsRangeChanged (ScaledTo over old) start end old new → end ≤ start + 64
    → (end < start + 64 → end ≡ length old) → IsWordChanged (ScaledTo over old) start old new
scaled_range over start end old new h most last = record {
  long = h.long;
  changed = λ i b. by_place i b (cases_lt (start + i) end);
  before = h.before;
  after = λ j b. h.after j (past_lem end start j most b);
}
  where
    past_lem : (end start j : ℕ) → end ≤ start + 64 → start + 64 ≤ j → end ≤ j
    past_lem end start j b c = omega (arith, b, c)

    short_lem : (end start i : ℕ) → i < 64 → end ≤ start + i → end < start + 64
    short_lem end start i b c = omega (arith, b, c)

    by_place : (i : ℕ) → i < 64 → (start + i < end) ⊎ (end ≤ start + i)
        → ScaledTo over old (start + i) (slice_index_or new (start + i) (pos 0))
    by_place i b (inl c) = h.changed (start + i) (omega arith) c
    by_place i b (inr c) =
        let none : slice_index_or old (start + i) (pos 0) ≡ pos 0 =
        get_or_past old (start + i) (pos 0)
        (subst (λ n. n ≤ start + i) (last (short_lem end start i b c)) c) in
        h.after (start + i) c ∙ none ∙ sym (ap (λ x. x *ℤ over) none ∙ zero_times over)
