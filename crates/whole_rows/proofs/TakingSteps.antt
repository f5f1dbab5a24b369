-- Numbers that are taken where they are marked, and words of marks that are put one after another.
use Rattle.std.specs.Prelude.{◌≡◌, ℕ, ◌+◌, ◌*◌, ◌/◌, ◌%◌, ◌<◌, ◌≤◌, ◌⊎◌, List, length, slice_index, slice_index_or, slice_set, ℤ, pos}
use Rattle.std.proofs.Common.{inl, inr, sym, ◌∙◌, arith, subst}
use Rattle.std.proofs.lemmas.Bool.{cases_lt}
use Rattle.std.proofs.lemmas.List.{get_or-set_other, get_or-set_same, get_or_default, get_or_past, same_lists}
use Rattle.simplex_laws.specs.BoundedSumLaws.{same_or_other}
use Rattle.whole_rows.specs.ColumnMarks.{IsWordChanged, MarksCover, WordCovers, mark_of, words_of}
use Rattle.whole_rows.proofs.BitSteps.{one_zero}
use Rattle.whole_rows.proofs.MarkSteps.{mark_past}
use Rattle.whole_rows.proofs.WordSteps.{AreColumnsChanged, IsWordLeft, columns_word, word_first}

-- ---- numbers that are taken

abbrev pub TakenTo : List ℤ → ℕ → ℤ → Type 0
TakenTo source j x = x ≡ slice_index_or source j (pos 0)

-- at the bits of a word, where zeros stand
pub taken_first : (source old : List ℤ) (start word : ℕ) → WordCovers word start source
    → length old ≡ length source
    → ((j : ℕ) → start ≤ j → slice_index_or old j (pos 0) ≡ pos 0)
    → IsWordLeft (TakenTo source) start word old old
taken_first source old start word covers wide zeros =
    word_first (TakenTo source) start word old
    (record {
      unset = λ i b e. zeros (start + i) (omega arith);
      within = λ i b e. subst (λ n. start + i < n) (sym wide) (covers.within i b e);
    })
    (λ i b e. zeros (start + i) (omega arith) ∙ sym (covers.unset i b e))

pub taken_word : (source : List ℤ) (start next_start : ℕ) (old now next : List ℤ)
    → AreColumnsChanged (TakenTo source) start old now
    → IsWordChanged (TakenTo source) start now next → next_start ≡ start + 64
    → AreColumnsChanged (TakenTo source) next_start old next
taken_word source start next_start old now next h word end =
    columns_word (TakenTo source) (TakenTo source) start next_start old now next h word
    (λ j x b e. e) end

pub taken_all : (source old new : List ℤ) (n : ℕ) → AreColumnsChanged (TakenTo source) n old new
    → length old ≡ length source → length source ≤ n → new ≡ source
taken_all source old new n h wide past =
    same_lists new source long_lem
    (λ k d b. get_or_default new k d (pos 0) b
    ∙ h.changed k (below_lem k (length source) n (subst (λ m. k < m) long_lem b) past)
    ∙ get_or_default source k (pos 0) d (subst (λ m. k < m) long_lem b))
  where
    long_lem : length new ≡ length source
    long_lem = h.long ∙ wide

    below_lem : (a b c : ℕ) → a < b → b ≤ c → a < c
    below_lem a b c x y = omega (arith, x, y)

-- ---- words of marks that are put

-- the first n words of the marks are marks of their columns
pub record AreWordsPut (n : ℕ) (marks : List ℕ) (numbers : List ℤ) : Type 0 where
  pub words : (k : ℕ) → k < n → WordCovers (slice_index marks k) (k * 64) numbers

pub put_none : (marks : List ℕ) (numbers : List ℤ) → AreWordsPut 0 marks numbers
put_none marks numbers = record { words = λ k b. absurd (omega (arith, b)) }

pub put_word : (marks : List ℕ) (numbers : List ℤ) (n word : ℕ) → AreWordsPut n marks numbers
    → WordCovers word (n * 64) numbers → n < length marks
    → AreWordsPut (n + 1) (slice_set marks n word) numbers
put_word marks numbers n word h here within = record {
  words = λ k b.
      same_or_other (WordCovers (slice_index (slice_set marks n word) k) (k * 64) numbers) k n
      (λ e. subst (λ i. WordCovers (slice_index (slice_set marks n word) i) (i * 64) numbers) (sym e)
      (subst (λ w. WordCovers w (n * 64) numbers) (sym (get_or-set_same marks n word 0 within)) here))
      (λ m. subst (λ w. WordCovers w (k * 64) numbers)
      (sym (get_or-set_other marks n k word 0 m)) (h.words k (less_lem k n b m)));
}
  where
    less_lem : (k n : ℕ) → k < n + 1 → ¬ (k ≡ n) → k < n
    less_lem k n b m = omega (arith, b, m)

pub put_all : (marks : List ℕ) (numbers : List ℤ) (n : ℕ) → AreWordsPut n marks numbers
    → length marks ≤ n → length marks ≡ words_of (length numbers) → MarksCover marks numbers
put_all marks numbers n h past words = record {
  unmarked = λ j e. by_end j e (cases_lt (j / 64) (length marks));
  within = λ j e. in_lem j e (cases_lt (j / 64) (length marks));
}
  where
    rest_below : (j : ℕ) → j % 64 < 64
    rest_below j = omega arith

    whole_lem : (j : ℕ) → j / 64 * 64 + j % 64 ≡ j
    whole_lem j = omega arith

    below_lem : (a b c : ℕ) → a < b → b ≤ c → a < c
    below_lem a b c x y = omega (arith, x, y)

    past_lem : (j m w : ℕ) → m ≤ j / 64 → m ≡ w / 64 + 1 → w ≤ j
    past_lem j m w b e = omega (arith, b, e)

    by_end : (j : ℕ) → mark_of marks j ≡ 0 → (j / 64 < length marks) ⊎ (length marks ≤ j / 64)
        → slice_index_or numbers j (pos 0) ≡ pos 0
    by_end j e (inl b) =
        subst (λ i. slice_index_or numbers i (pos 0) ≡ pos 0) (whole_lem j)
        ((h.words (j / 64) (below_lem (j / 64) (length marks) n b past)).unset (j % 64)
        (rest_below j) e)
    by_end j e (inr b) =
        get_or_past numbers j (pos 0) (past_lem j (length marks) (length numbers) b words)

    in_lem : (j : ℕ) → mark_of marks j ≡ 1 → (j / 64 < length marks) ⊎ (length marks ≤ j / 64)
        → j < length numbers
    in_lem j e (inl b) =
        subst (λ i. i < length numbers) (whole_lem j)
        ((h.words (j / 64) (below_lem (j / 64) (length marks) n b past)).within (j % 64)
        (rest_below j) e)
    in_lem j e (inr b) = absurd (one_zero (mark_of marks j) e (mark_past marks j b))
