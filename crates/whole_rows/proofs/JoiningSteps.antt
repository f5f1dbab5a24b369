-- Words of marks that are noted, and joined at listed places.
use Rattle.std.specs.Prelude.{◌≡◌, ℕ, ◌+◌, ◌/◌, ◌%◌, ◌<◌, ◌≤◌, ◌⊎◌, List, bit_or, length, map, max, slice_index, slice_index_or, slice_set, pos, unsigned_abs, refl}
use Rattle.std.proofs.Common.{inl, inr, sym, ◌∙◌, ap, ap₂, arith, subst}
use Rattle.std.specs.Int.{bit_at}
use Rattle.std.proofs.lemmas.Bool.{cases_lt}
use Rattle.std.proofs.lemmas.List.{get_or-map, get_or-set_other, get_or-set_same, length-map, length-set}
use Rattle.std.proofs.lemmas.Nat.Bits.{bit_at-zero, bit_at_or}
use Rattle.simplex_laws.specs.BoundedSumLaws.{same_or_other}
use Rattle.whole_rows.specs.ColumnMarks.{AreMarksJoined, mark_of}
use Rattle.whole_rows.specs.Listed.{IsNotedTo, ListsNonzeros}
use Rattle.whole_rows.proofs.ListedSteps.{noted_next, noted_none, sought}
use Rattle.whole_rows.proofs.MarkSteps.{mark_past}

-- ---- words as whole numbers

pub word_number : (marks : List ℕ) (k : ℕ) → k < length marks
    → slice_index_or (map pos marks) k (pos 0) ≡ pos (slice_index marks k)
word_number marks k b = get_or-map pos marks k 0 (pos 0) b

pub words_long : (marks : List ℕ) → length (map pos marks) ≡ length marks
words_long marks = length-map marks pos

pub words_none : (marks words : List ℕ) → length marks ≤ length words
    → IsNotedTo (map pos marks) words 0 0
words_none marks words long =
    noted_none (map pos marks) words (subst (λ n. n ≤ length words) (sym (words_long marks)) long)

pub words_next : (marks words : List ℕ) (used k count word : ℕ)
    → IsNotedTo (map pos marks) words used k → k < length marks → word ≡ slice_index marks k
    → count ≤ 1 → (count ≡ 0 → word ≡ 0) → (count ≡ 1 → ¬ (word ≡ 0))
    → IsNotedTo (map pos marks) (slice_set words used k) (used + count) (k + 1)
words_next marks words used k count word h b is few none one =
    noted_next (map pos marks) words used k count h
    (subst (λ n. k < n) (sym (words_long marks)) b) few
    (λ e. word_number marks k b ∙ ap pos (sym is ∙ none e))
    (λ e z. one e (is ∙ ap unsigned_abs (sym (word_number marks k b) ∙ z)))

-- ---- words that are joined

-- the words at the first n places have the bits of others too, and each other is as it was
pub record AreWordsJoined (words : List ℕ) (n : ℕ) (added old new : List ℕ) : Type 0 where
  pub long : length new ≡ length old
  pub joined : (m : ℕ) → m < n → slice_index new (slice_index words m)
      ≡ bit_or (slice_index old (slice_index words m)) (slice_index added (slice_index words m))
  pub others : (k : ℕ) → ((m : ℕ) → m < n → ¬ (slice_index words m ≡ k)) →
      slice_index new k ≡ slice_index old k

pub joins_none : (words added old : List ℕ) → AreWordsJoined words 0 added old old
joins_none words added old = record {
  long = refl;
  joined = λ m b. absurd (omega (arith, b));
  others = λ k h. refl;
}

pub joins_more : (words : List ℕ) (n : ℕ) (added old now : List ℕ) (x : ℕ)
    → AreWordsJoined words n added old now → slice_index words n < length now
    → ((m : ℕ) → m < n → ¬ (slice_index words m ≡ slice_index words n))
    → x ≡ bit_or (slice_index now (slice_index words n)) (slice_index added (slice_index words n))
    → AreWordsJoined words (n + 1) added old (slice_set now (slice_index words n) x)
joins_more words n added old now x h within apart is = record {
  long = length-set now (slice_index words n) x ∙ h.long;
  joined = λ m b.
      same_or_other _ m n
      (λ e. subst (λ i. slice_index (slice_set now (slice_index words n) x) (slice_index words i)
      ≡ bit_or (slice_index old (slice_index words i)) (slice_index added (slice_index words i)))
      (sym e)
      (get_or-set_same now (slice_index words n) x 0 within ∙ is
      ∙ ap (λ y. bit_or y (slice_index added (slice_index words n)))
      (h.others (slice_index words n) apart)))
      (λ d. let here : m < n = omega (arith, b, d) in
      get_or-set_other now (slice_index words n) (slice_index words m) x 0 (apart m here)
      ∙ h.joined m here);
  others = λ k off.
      get_or-set_other now (slice_index words n) k x 0 (λ e. off n (omega arith) (sym e))
      ∙ h.others k (λ m b. off m (omega (arith, b)));
}

pub joins_all : (words : List ℕ) (n : ℕ) (added old new : List ℕ)
    → ListsNonzeros words (map pos added) → length added ≡ length old → n ≡ length words
    → AreWordsJoined words n added old new → AreMarksJoined added old new
joins_all words n added old new lists same all h = record {
  long = h.long;
  marks = λ j. by_end j (cases_lt (j / 64) (length old));
}
  where
    none_lem : (x : ℕ) → x ≡ max x 0
    none_lem x = omega arith

    by_place : (j : ℕ) → j / 64 < length added
        → ((m : ℕ) × (m < length words) × (slice_index words m ≡ j / 64))
        ⊎ ((m : ℕ) → m < length words → ¬ (slice_index words m ≡ j / 64))
        → mark_of new j ≡ max (mark_of old j) (mark_of added j)
    by_place j b (inl f) =
        ap (λ w. bit_at w (j % 64))
        (subst (λ k. slice_index new k ≡ bit_or (slice_index old k) (slice_index added k)) f.2
        (h.joined f.0 (subst (λ m. f.0 < m) (sym all) f.1)))
        ∙ bit_at_or (slice_index old (j / 64)) (slice_index added (j / 64)) (j % 64)
    by_place j b (inr off) =
        let empty : slice_index added (j / 64) ≡ 0 =
        ap unsigned_abs (sym (word_number added (j / 64) b)
        ∙ lists.others (j / 64) (subst (λ m. j / 64 < m) (sym (words_long added)) b) off) in
        ap (λ w. bit_at w (j % 64))
        (h.others (j / 64) (λ m c. off m (subst (λ x. m < x) all c)))
        ∙ none_lem (mark_of old j)
        ∙ sym (ap (max (mark_of old j)) (ap (λ w. bit_at w (j % 64)) empty ∙ bit_at-zero (j % 64)))

    by_end : (j : ℕ) → (j / 64 < length old) ⊎ (length old ≤ j / 64)
        → mark_of new j ≡ max (mark_of old j) (mark_of added j)
    by_end j (inl b) =
        by_place j (subst (λ m. j / 64 < m) (sym same) b) (sought words (j / 64) (length words))
    by_end j (inr b) =
        mark_past new j (subst (λ m. m ≤ j / 64) (sym h.long) b)
        ∙ sym (ap₂ max (mark_past old j b)
        (mark_past added j (subst (λ m. m ≤ j / 64) (sym same) b)))
