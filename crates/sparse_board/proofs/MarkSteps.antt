-- Marks that are bits of words.
use Rattle.std.specs.Prelude.{◌≡◌, ℕ, ◌+◌, ◌*◌, ◌/◌, ◌%◌, ◌<◌, ◌≤◌, ◌⊎◌, Bool, true, false, ◌&&◌, ◌||◌, nat_eq, bit_or, length, replicate, slice_index, slice_set, vec_len}
use Rattle.std.proofs.Common.{inl, inr, sym, ◌∙◌, ap, arith, subst, true≢false}
use Rattle.std.specs.Int.{bit_at}
use Rattle.std.proofs.lemmas.Bool.{cases_lt, le-ltb, lt-ltb}
use Rattle.std.proofs.lemmas.List.{get_or-replicate, get_or-set_other, get_or-set_same, get_or_past, length-replicate}
use Rattle.std.proofs.lemmas.Nat.{mul-add-lt, mul-le, same_from_place}
use Rattle.std.proofs.lemmas.Nat.Bits.{bit_at-zero}
use Rattle.simplex_laws.specs.BoundedSumLaws.{same_or_other}
use Rattle.sparse_board.specs.declared.marks.Marks.{Marks}
use Rattle.sparse_board.specs.Words.{AreJoined, bit_of}
use Rattle.sparse_board.specs.Marks.{IsJoined, IsPut, IsWord, IsWordJoined, IsWordPut, SameSizes, has}
use Rattle.sparse_board.proofs.WordSteps.{joined_bit}

-- ---- a mark is a bit

pub has_is : (marks : Marks) (j i : ℕ) → i < marks.rows → has marks j i
    ≡ nat_eq (bit_of marks.words.items marks.stride j i) 1
unfolding has
has_is marks j i b =
    ap (λ t. t && nat_eq (bit_of marks.words.items marks.stride j i) 1) (lt-ltb i marks.rows b)

has_past : (marks : Marks) (j i : ℕ) → marks.rows ≤ i → has marks j i ≡ false
unfolding has
has_past marks j i b =
    ap (λ t. t && nat_eq (bit_of marks.words.items marks.stride j i) 1) (le-ltb i marks.rows b)

-- a row that is marked is one of the rows
pub has_within : (marks : Marks) (j i : ℕ) → has marks j i ≡ true → i < marks.rows
has_within marks j i e = by_row (cases_lt i marks.rows)
  where
    by_row : (i < marks.rows) ⊎ (marks.rows ≤ i) → i < marks.rows
    by_row (inl b) = b
    by_row (inr b) = absurd (true≢false (sym e ∙ has_past marks j i b))

pub unset_is : (marks : Marks) (j i : ℕ) → bit_of marks.words.items marks.stride j i ≡ 0
    → has marks j i ≡ false
unset_is marks j i e = by_row (cases_lt i marks.rows)
  where
    by_row : (i < marks.rows) ⊎ (marks.rows ≤ i) → has marks j i ≡ false
    by_row (inl b) = has_is marks j i b ∙ ap (λ x. nat_eq x 1) e
    by_row (inr b) = has_past marks j i b

-- ---- the place of a bit

low : (marks : Marks) (i : ℕ) → i ≤ marks.rows → i / 64 < marks.stride
low marks i b = omega (arith, marks.room, b)

pub word_within : (marks : Marks) (j k : ℕ) → j < marks.columns → k < marks.stride
    → j * marks.stride + k < vec_len marks.words
word_within marks j k c b = omega (arith, marks.long, mul-add-lt j marks.stride k marks.columns c b)

pub place_within : (marks : Marks) (j i : ℕ) → j < marks.columns → i < marks.rows
    → j * marks.stride + i / 64 < vec_len marks.words
place_within marks j i c b = word_within marks j (i / 64) c (low marks i (omega (arith, b)))

pub item_within : (marks : Marks) (p : ℕ) → p < vec_len marks.words → p < length marks.words.items
item_within marks p b = subst (λ n. p < n) marks.words.ok.0 b

-- ---- no marks

pub none_marked : (marks : Marks) (n : ℕ) → marks.words.items ≡ replicate n 0 → (j i : ℕ)
    → has marks j i ≡ false
none_marked marks n zeros j i =
    unset_is marks j i
    (ap (λ l. bit_of l marks.stride j i) zeros
    ∙ ap (λ w. bit_at w (i % 64)) (zero_lem (j * marks.stride + i / 64)) ∙ bit_at-zero (i % 64))
  where
    zero_lem : (p : ℕ) → slice_index (replicate n 0) p ≡ 0
    zero_lem p = by_end (cases_lt p n)
      where
        by_end : (p < n) ⊎ (n ≤ p) → slice_index (replicate n 0) p ≡ 0
        by_end (inl b) = get_or-replicate n p 0 0 b
        by_end (inr b) =
            get_or_past (replicate n 0) p 0
            (subst (λ m. m ≤ p) (sym (length-replicate n 0)) b)

pub word_place : (marks : Marks) (j k : ℕ) → j < marks.columns → k * 64 ≤ marks.rows
    → j * marks.stride + k < vec_len marks.words
word_place marks j k c b = word_within marks j k c (stride_lem k marks.rows marks.stride b marks.room)
  where
    stride_lem : (k r s : ℕ) → k * 64 ≤ r → s ≡ r / 64 + 1 → k < s
    stride_lem k r s b e = omega (arith, b, e)

-- ---- a word that is read

pub word_read : (marks : Marks) (j k word : ℕ)
    → word ≡ slice_index marks.words.items (j * marks.stride + k) → IsWord j k word marks
word_read marks j k word read i b e =
    has_is marks j i b
    ∙ ap (λ n. nat_eq (bit_at (slice_index marks.words.items (j * marks.stride + n)) (i % 64)) 1) e
    ∙ ap (λ w. nat_eq (bit_at w (i % 64)) 1) (sym read)

-- ---- a word that is written

module _ (old new : Marks) (j i word : ℕ) (sizes : SameSizes old new)
    (stride : new.stride ≡ old.stride)
    (words : new.words.items ≡ slice_set old.words.items (j * old.stride + i / 64) word)
    (column : j < old.columns) (row : i < old.rows) where
  written : slice_index (slice_set old.words.items (j * old.stride + i / 64) word)
      (j * old.stride + i / 64) ≡ word
  written =
      get_or-set_same old.words.items (j * old.stride + i / 64) word 0
      (item_within old (j * old.stride + i / 64) (place_within old j i column row))

  read_bit : (l k : ℕ) → bit_of new.words.items new.stride l k
      ≡ bit_of (slice_set old.words.items (j * old.stride + i / 64) word) old.stride l k
  read_bit l k = λ z. bit_of (words z) (stride z) l k

  pub put_here : has new j i ≡ nat_eq (bit_at word (i % 64)) 1
  put_here =
      has_is new j i (subst (λ n. i < n) (sym sizes.rows) row)
      ∙ ap (λ b. nat_eq b 1) (read_bit j i ∙ ap (λ w. bit_at w (i % 64)) written)

  module _ (kept : (n : ℕ) → n < 64 → ¬ (n ≡ i % 64) → bit_at word n
      ≡ bit_at (slice_index old.words.items (j * old.stride + i / 64)) n) where
    same_bit : (l k : ℕ) → k < old.rows → ¬ ((l ≡ j) × (k ≡ i))
        → bit_of (slice_set old.words.items (j * old.stride + i / 64) word) old.stride l k
        ≡ bit_of old.words.items old.stride l k
    same_bit l k b apart =
        same_or_other (bit_of (slice_set old.words.items (j * old.stride + i / 64) word) old.stride
        l k ≡ bit_of old.words.items old.stride l k)
        (l * old.stride + k / 64) (j * old.stride + i / 64)
        same_word
        (λ n. ap (λ w. bit_at w (k % 64)) (get_or-set_other old.words.items
        (j * old.stride + i / 64) (l * old.stride + k / 64) word 0 n))
      where
        same_row : (k i : ℕ) → k / 64 ≡ i / 64 → k % 64 ≡ i % 64 → k ≡ i
        same_row k i e f = omega (arith, e, f)

        same_word : l * old.stride + k / 64 ≡ j * old.stride + i / 64
            → bit_of (slice_set old.words.items (j * old.stride + i / 64) word) old.stride l k
            ≡ bit_of old.words.items old.stride l k
        same_word e =
            let at = same_from_place l (k / 64) j (i / 64) old.stride
            (low old k (omega (arith, b))) (low old i (omega (arith, row))) e in
            ap (λ p. bit_at (slice_index (slice_set old.words.items (j * old.stride + i / 64) word)
            p) (k % 64)) e
            ∙ ap (λ w. bit_at w (k % 64)) written
            ∙ kept (k % 64) (omega arith) (λ f. apart (at.0, same_row k i at.1 f))
            ∙ ap (λ p. bit_at (slice_index old.words.items p) (k % 64)) (sym e)

    others_kept : (l k : ℕ) → ¬ ((l ≡ j) × (k ≡ i)) → has new l k ≡ has old l k
    others_kept l k apart = by_row (cases_lt k old.rows)
      where
        by_row : (k < old.rows) ⊎ (old.rows ≤ k) → has new l k ≡ has old l k
        by_row (inl b) =
            has_is new l k (subst (λ n. k < n) (sym sizes.rows) b)
            ∙ ap (λ x. nat_eq x 1) (read_bit l k ∙ same_bit l k b apart)
            ∙ sym (has_is old l k b)
        by_row (inr b) =
            has_past new l k (subst (λ n. n ≤ k) (sym sizes.rows) b) ∙ sym (has_past old l k b)

    pub put_is : (mark : Bool) → nat_eq (bit_at word (i % 64)) 1 ≡ mark → IsPut j i mark old new
    put_is mark e = record { sizes = sizes; here = put_here ∙ e; others = others_kept }

-- ---- a whole word that is written

module _ (old new : Marks) (j k word : ℕ) (sizes : SameSizes old new)
    (stride : new.stride ≡ old.stride)
    (words : new.words.items ≡ slice_set old.words.items (j * old.stride + k) word)
    (column : j < old.columns) (place : k * 64 ≤ old.rows) where
  word_written : slice_index (slice_set old.words.items (j * old.stride + k) word)
      (j * old.stride + k) ≡ word
  word_written =
      get_or-set_same old.words.items (j * old.stride + k) word 0
      (item_within old (j * old.stride + k) (word_place old j k column place))

  read_word : (l i : ℕ) → bit_of new.words.items new.stride l i
      ≡ bit_of (slice_set old.words.items (j * old.stride + k) word) old.stride l i
  read_word l i = λ z. bit_of (words z) (stride z) l i

  other_word : (l i : ℕ) → i < old.rows → ¬ ((l ≡ j) × (i / 64 ≡ k))
      → bit_of (slice_set old.words.items (j * old.stride + k) word) old.stride l i
      ≡ bit_of old.words.items old.stride l i
  other_word l i b apart =
      ap (λ w. bit_at w (i % 64))
      (get_or-set_other old.words.items (j * old.stride + k) (l * old.stride + i / 64) word 0
      (λ e. apart (same_from_place l (i / 64) j k old.stride (low old i (omega (arith, b)))
      (place_lem k old.rows old.stride place old.room) e)))
    where
      place_lem : (k r s : ℕ) → k * 64 ≤ r → s ≡ r / 64 + 1 → k < s
      place_lem k r s b e = omega (arith, b, e)

  pub word_put : IsWordPut j k word old new
  word_put = record {
    sizes = sizes;
    here = λ i b e. has_is new j i b ∙ ap (λ x. nat_eq x 1) (read_word j i
        ∙ ap (λ n. bit_at (slice_index (slice_set old.words.items (j * old.stride + k) word)
        (j * old.stride + n)) (i % 64)) e
        ∙ ap (λ w. bit_at w (i % 64)) word_written);
    others = λ l i apart. by_row l i apart (cases_lt i old.rows);
  }
    where
      by_row : (l i : ℕ) → ¬ ((l ≡ j) × (i / 64 ≡ k)) → (i < old.rows) ⊎ (old.rows ≤ i)
          → has new l i ≡ has old l i
      by_row l i apart (inl b) =
          has_is new l i (subst (λ n. i < n) (sym sizes.rows) b)
          ∙ ap (λ x. nat_eq x 1) (read_word l i ∙ other_word l i b apart)
          ∙ sym (has_is old l i b)
      by_row l i apart (inr b) =
          has_past new l i (subst (λ n. n ≤ i) (sym sizes.rows) b) ∙ sym (has_past old l i b)

-- ---- a word that is joined

pub word_joined : (old new : Marks) (j k left word joined : ℕ) → IsWord j k left old
    → joined ≡ bit_or left word → IsWordPut j k joined old new → IsWordJoined j k word old new
word_joined old new j k left word joined read is put = record {
  sizes = put.sizes;
  here = λ i b e. put.here i (subst (λ n. i < n) (sym put.sizes.rows) b) e
      ∙ ap (λ w. nat_eq (bit_at w (i % 64)) 1) is
      ∙ joined_bit left word (i % 64)
      ∙ ap (λ t. t || nat_eq (bit_at word (i % 64)) 1) (sym (read i b e));
  others = put.others;
}

-- ---- columns that are joined

-- a column's words are its own, so two columns don't overlap
pub columns_apart : (marks : Marks) (from to : ℕ) → (to * marks.stride ≤ from * marks.stride)
    ⊎ (from * marks.stride + marks.stride ≤ to * marks.stride)
columns_apart marks from to = by_order (cases_lt from to)
  where
    after_lem : (from to n : ℕ) → from < to → from * n + n ≤ to * n
    after_lem from to n b = omega (arith, mul-le (from + 1) n to n (omega (arith, b)) (omega arith))

    by_order : (from < to) ⊎ (to ≤ from) → (to * marks.stride ≤ from * marks.stride)
        ⊎ (from * marks.stride + marks.stride ≤ to * marks.stride)
    by_order (inl b) = inr (after_lem from to marks.stride b)
    by_order (inr b) = inl (mul-le to marks.stride from marks.stride b (omega arith))

pub column_within : (marks : Marks) (j : ℕ) → j < marks.columns
    → j * marks.stride + marks.stride ≤ vec_len marks.words
column_within marks j b =
    omega (
      arith,
      marks.long,
      mul-le (j + 1) marks.stride marks.columns marks.stride (omega (arith, b)) (omega arith),
    )

module _ (old new : Marks) (from to : ℕ) (sizes : SameSizes old new)
    (stride : new.stride ≡ old.stride)
    (h : AreJoined (from * old.stride) (to * old.stride) old.stride old.words.items
    new.words.items) where
  read_joined : (l k : ℕ) → bit_of new.words.items new.stride l k
      ≡ bit_of new.words.items old.stride l k
  read_joined l k = ap (λ s. bit_of new.words.items s l k) stride

  joined_here : (i : ℕ) → has new to i ≡ (has old to i || has old from i)
  joined_here i = by_row (cases_lt i old.rows)
    where
      by_row : (i < old.rows) ⊎ (old.rows ≤ i) → has new to i ≡ (has old to i || has old from i)
      by_row (inl b) =
          has_is new to i (subst (λ n. i < n) (sym sizes.rows) b)
          ∙ ap (λ x. nat_eq x 1) (read_joined to i
          ∙ ap (λ w. bit_at w (i % 64)) (h.joined (i / 64) (low old i (omega (arith, b)))))
          ∙ joined_bit (slice_index old.words.items (to * old.stride + i / 64))
          (slice_index old.words.items (from * old.stride + i / 64)) (i % 64)
          ∙ (λ z. sym (has_is old to i b) z || sym (has_is old from i b) z)
      by_row (inr b) =
          has_past new to i (subst (λ n. n ≤ i) (sym sizes.rows) b)
          ∙ (λ z. sym (has_past old to i b) z || sym (has_past old from i b) z)

  joined_others : (j i : ℕ) → ¬ (j ≡ to) → has new j i ≡ has old j i
  joined_others j i apart = by_row (cases_lt i old.rows)
    where
      off_lem : i < old.rows → (k : ℕ) → k < old.stride
          → ¬ (j * old.stride + i / 64 ≡ to * old.stride + k)
      off_lem b k c e =
          apart (same_from_place j (i / 64) to k old.stride (low old i (omega (arith, b))) c e).0

      by_row : (i < old.rows) ⊎ (old.rows ≤ i) → has new j i ≡ has old j i
      by_row (inl b) =
          has_is new j i (subst (λ n. i < n) (sym sizes.rows) b)
          ∙ ap (λ x. nat_eq x 1) (read_joined j i
          ∙ ap (λ w. bit_at w (i % 64)) (h.others (j * old.stride + i / 64) (off_lem b)))
          ∙ sym (has_is old j i b)
      by_row (inr b) =
          has_past new j i (subst (λ n. n ≤ i) (sym sizes.rows) b) ∙ sym (has_past old j i b)

  pub joined_is : IsJoined from to old new
  joined_is = record { sizes = sizes; here = joined_here; others = joined_others }
