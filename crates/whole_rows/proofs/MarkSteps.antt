-- Marks of columns, and the numbers of columns that aren't marked.
use Rattle.std.specs.Prelude.{◌≡◌, ℕ, zero, suc, ◌+◌, ◌*◌, ◌/◌, ◌%◌, ◌<◌, ◌≤◌, ◌⊎◌, List, length, max, bit_or, replicate, slice_index, slice_index_or, slice_set, ℤ, pos, negsuc, ◌+ℤ◌, ◌*ℤ◌, neg_ℤ, unsigned_abs, refl}
use Rattle.std.proofs.Common.{inl, inr, sym, ◌∙◌, ap, ap₂, arith, subst}
use Rattle.std.proofs.Math.IntN.{*ℤ-zero, *ℤ_comm}
use Rattle.std.specs.Int.{bit_at}
use Rattle.std.proofs.lemmas.Bool.{cases_lt}
use Rattle.std.proofs.lemmas.Int.{unsigned_abs-mul}
use Rattle.std.proofs.lemmas.List.{get_or-replicate, get_or-set_other, get_or-set_same, get_or_past, length-replicate, length-set}
use Rattle.std.proofs.lemmas.Nat.Bits.{bit_at-lt, bit_at-zero, bit_at_or}
use Rattle.simplex_laws.specs.BoundedSumLaws.{same_or_other}
use Rattle.whole_rows.specs.ColumnMarks.{AreMarksJoined, AreScaled, IsColumnMarked, MarksCover, WordCovers, mark_of}
use Rattle.whole_rows.specs.Numerators.{AreDivided, AreNumeratorsLowered, AreNumeratorsMade, AreShrunk}
use Rattle.whole_rows.specs.Over.{lowered_num}
use Rattle.whole_rows.proofs.BitSteps.{one_zero}

-- ---- a mark is a bit

-- what isn't set is 0
pub mark_none : (marks : List ℕ) (j : ℕ) → ¬ (mark_of marks j ≡ 1) → mark_of marks j ≡ 0
mark_none marks j n = by_bit (mark_of marks j) (bit_at-lt _ (j % 64)) n
  where
    by_bit : (x : ℕ) → x < 2 → ¬ (x ≡ 1) → x ≡ 0
    by_bit x b n = omega (arith, b, n)

place_lem : (k i : ℕ) → i < 64 → (k * 64 + i) / 64 ≡ k
place_lem k i b = omega (arith, b)

rest_lem : (k i : ℕ) → i < 64 → (k * 64 + i) % 64 ≡ i
rest_lem k i b = omega (arith, b)

pub mark_at : (marks : List ℕ) (k i : ℕ) → i < 64
    → mark_of marks (k * 64 + i) ≡ bit_at (slice_index marks k) i
mark_at marks k i b =
    ap₂ (λ x y. bit_at (slice_index marks x) y) (place_lem k i b) (rest_lem k i b)

-- behind the words no column is marked
pub mark_past : (marks : List ℕ) (j : ℕ) → length marks ≤ j / 64 → mark_of marks j ≡ 0
mark_past marks j b =
    ap (λ w. bit_at w (j % 64)) (get_or_past marks (j / 64) 0 b) ∙ bit_at-zero (j % 64)

-- words that are cleared
pub cleared_words : (marks : List ℕ) (n : ℕ) → marks ≡ replicate n 0 → (k : ℕ)
    → slice_index marks k ≡ 0
cleared_words marks n zeros k = ap (λ l. slice_index l k) zeros ∙ by_end (cases_lt k n)
  where
    by_end : (k < n) ⊎ (n ≤ k) → slice_index (replicate n 0) k ≡ 0
    by_end (inl b) = get_or-replicate n k 0 0 b
    by_end (inr b) =
        get_or_past (replicate n 0) k 0 (subst (λ m. m ≤ k) (sym (length-replicate n 0)) b)

pub cleared_marks : (marks : List ℕ) (n : ℕ) → marks ≡ replicate n 0 → (j : ℕ)
    → mark_of marks j ≡ 0
cleared_marks marks n zeros j =
    ap (λ w. bit_at w (j % 64)) (cleared_words marks n zeros (j / 64)) ∙ bit_at-zero (j % 64)

-- the columns of a word that is read
pub word_covers : (marks : List ℕ) (numbers : List ℤ) (k word : ℕ) → MarksCover marks numbers
    → word ≡ slice_index marks k → WordCovers word (k * 64) numbers
word_covers marks numbers k word covers is = record {
  unset = λ i b e. covers.unmarked (k * 64 + i)
      (mark_at marks k i b ∙ ap (λ w. bit_at w i) (sym is) ∙ e);
  within = λ i b e. covers.within (k * 64 + i)
      (mark_at marks k i b ∙ ap (λ w. bit_at w i) (sym is) ∙ e);
}

-- the same of numbers that are as they were there
pub word_stays : (word start : ℕ) (old new : List ℤ) → WordCovers word start old
    → length new ≡ length old
    → ((j : ℕ) → start ≤ j → slice_index_or new j (pos 0) ≡ slice_index_or old j (pos 0))
    → WordCovers word start new
word_stays word start old new covers long same = record {
  unset = λ i b e. same (start + i) (omega arith) ∙ covers.unset i b e;
  within = λ i b e. subst (λ n. start + i < n) (sym long) (covers.within i b e);
}

-- the columns of either of two words
pub word_joins : (word left right start : ℕ) (numbers : List ℤ) → word ≡ bit_or left right
    → WordCovers left start numbers
    → ((i : ℕ) → i < 64 → bit_at right i ≡ 1 → start + i < length numbers)
    → WordCovers word start numbers
word_joins word left right start numbers is covers within = record {
  unset = λ i b e. covers.unset i b (left_lem _ _ (sym (bits_lem i) ∙ e));
  within = λ i b e. by_bit i b (bit_at-lt left i) (sym (bits_lem i) ∙ e) (cases_lt 0 (bit_at left i));
}
  where
    bits_lem : (i : ℕ) → bit_at word i ≡ max (bit_at left i) (bit_at right i)
    bits_lem i = ap (λ w. bit_at w i) is ∙ bit_at_or left right i

    left_lem : (x y : ℕ) → max x y ≡ 0 → x ≡ 0
    left_lem x y e = omega (arith, e)

    one_lem : (x : ℕ) → x < 2 → 0 < x → x ≡ 1
    one_lem x a b = omega (arith, a, b)

    right_lem : (x y : ℕ) → max x y ≡ 1 → x ≤ 0 → y ≡ 1
    right_lem x y e b = omega (arith, e, b)

    by_bit : (i : ℕ) → i < 64 → bit_at left i < 2 → max (bit_at left i) (bit_at right i) ≡ 1
        → (0 < bit_at left i) ⊎ (bit_at left i ≤ 0) → start + i < length numbers
    by_bit i b two e (inl c) = covers.within i b (one_lem _ two c)
    by_bit i b two e (inr c) = within i b (right_lem _ _ e c)

-- the columns of a word of two rows, which both have as many
pub joined_word : (marks others : List ℕ) (numbers step : List ℤ) (k word : ℕ)
    → MarksCover marks numbers → MarksCover others step → length step ≡ length numbers
    → word ≡ bit_or (slice_index marks k) (slice_index others k)
    → WordCovers word (k * 64) numbers
joined_word marks others numbers step k word covers step_covers long is =
    word_joins word (slice_index marks k) (slice_index others k) (k * 64) numbers is
    (word_covers marks numbers k (slice_index marks k) covers refl)
    (λ i b e. subst (λ n. k * 64 + i < n) long
    ((word_covers others step k (slice_index others k) step_covers refl).within i b e))

-- a word of marks that is put
pub covers_word : (marks : List ℕ) (numbers : List ℤ) (k word : ℕ) → MarksCover marks numbers
    → WordCovers word (k * 64) numbers → k < length marks
    → MarksCover (slice_set marks k word) numbers
covers_word marks numbers k word covers here within = record {
  unmarked = λ j e. same_or_other (slice_index_or numbers j (pos 0) ≡ pos 0) (j / 64) k
      (λ f. subst (λ n. slice_index_or numbers n (pos 0) ≡ pos 0) (whole_lem j k f)
      (here.unset (j % 64) (rest_below j)
      (ap (λ w. bit_at w (j % 64)) (sym (own_lem j f)) ∙ e)))
      (λ n. covers.unmarked j (ap (λ w. bit_at w (j % 64)) (sym (other_lem j n)) ∙ e));
  within = λ j e. same_or_other (j < length numbers) (j / 64) k
      (λ f. subst (λ n. n < length numbers) (whole_lem j k f)
      (here.within (j % 64) (rest_below j)
      (ap (λ w. bit_at w (j % 64)) (sym (own_lem j f)) ∙ e)))
      (λ n. covers.within j (ap (λ w. bit_at w (j % 64)) (sym (other_lem j n)) ∙ e));
}
  where
    rest_below : (j : ℕ) → j % 64 < 64
    rest_below j = omega arith

    whole_lem : (j k : ℕ) → j / 64 ≡ k → k * 64 + j % 64 ≡ j
    whole_lem j k f = omega (arith, f)

    own_lem : (j : ℕ) → j / 64 ≡ k → slice_index (slice_set marks k word) (j / 64) ≡ word
    own_lem j f =
        ap (slice_index (slice_set marks k word)) f ∙ get_or-set_same marks k word 0 within

    other_lem : (j : ℕ) → ¬ (j / 64 ≡ k)
        → slice_index (slice_set marks k word) (j / 64) ≡ slice_index marks (j / 64)
    other_lem j n = get_or-set_other marks k (j / 64) word 0 n

-- a column that is marked
pub column_marked : (marks : List ℕ) (j word : ℕ) → j / 64 < length marks
    → bit_at word (j % 64) ≡ 1
    → ((i : ℕ) → ¬ (i ≡ j % 64) → bit_at word i ≡ bit_at (slice_index marks (j / 64)) i)
    → IsColumnMarked j marks (slice_set marks (j / 64) word)
column_marked marks j word within set others = record {
  long = length-set marks (j / 64) word;
  here = ap (λ w. bit_at w (j % 64)) (get_or-set_same marks (j / 64) word 0 within) ∙ set;
  others = λ i n. same_or_other
      (mark_of (slice_set marks (j / 64) word) i ≡ mark_of marks i) (i / 64) (j / 64)
      (λ f. ap (λ k. bit_at (slice_index (slice_set marks (j / 64) word) k) (i % 64)) f
      ∙ ap (λ w. bit_at w (i % 64)) (get_or-set_same marks (j / 64) word 0 within)
      ∙ others (i % 64) (λ e. n (place_is i j f e))
      ∙ ap (λ k. bit_at (slice_index marks k) (i % 64)) (sym f))
      (λ m. ap (λ w. bit_at w (i % 64)) (get_or-set_other marks (j / 64) (i / 64) word 0 m));
}
  where
    place_is : (i j : ℕ) → i / 64 ≡ j / 64 → i % 64 ≡ j % 64 → i ≡ j
    place_is i j e f = omega (arith, e, f)

-- the first n columns are marked, and no other
pub record AreFirstMarked (n : ℕ) (old new : List ℕ) : Type 0 where
  pub long : length new ≡ length old
  pub marked : (j : ℕ) → j < n → mark_of new j ≡ 1
  pub others : (j : ℕ) → n ≤ j → mark_of new j ≡ 0

pub first_marked_none : (old new : List ℕ) → length new ≡ length old
    → ((j : ℕ) → mark_of new j ≡ 0) → AreFirstMarked 0 old new
first_marked_none old new long none = record {
  long = long;
  marked = λ j b. absurd (omega (arith, b));
  others = λ j b. none j;
}

pub first_marked_more : (n : ℕ) (old now next : List ℕ) → AreFirstMarked n old now
    → IsColumnMarked n now next → AreFirstMarked (n + 1) old next
first_marked_more n old now next h marked = record {
  long = marked.long ∙ h.long;
  marked = λ j b. same_or_other (mark_of next j ≡ 1) j n
      (λ e. ap (mark_of next) e ∙ marked.here)
      (λ m. marked.others j m ∙ h.marked j (less_lem j n b m));
  others = λ j b. marked.others j (apart_lem j n b) ∙ h.others j (above_lem j n b);
}
  where
    less_lem : (j n : ℕ) → j < n + 1 → ¬ (j ≡ n) → j < n
    less_lem j n b m = omega (arith, b, m)

    apart_lem : (j n : ℕ) → n + 1 ≤ j → j ≡ n → ⊥
    apart_lem j n b e = omega (arith, b, e)

    above_lem : (j n : ℕ) → n + 1 ≤ j → n ≤ j
    above_lem j n b = omega (arith, b)

-- ---- marks that are joined

-- the numbers of both rows are marked then
module _ (added old new : List ℕ) (joined : AreMarksJoined added old new) (numbers step : List ℤ)
    (covers : MarksCover old numbers) (step_covers : MarksCover added step)
    (long : length step ≡ length numbers) where
  none_lem : (x y m : ℕ) → m ≡ max x y → m ≡ 0 → (x ≡ 0) × (y ≡ 0)
  none_lem x y m e f = (omega (arith, e, f), omega (arith, e, f))

  one_lem : (x : ℕ) → x < 2 → 0 < x → x ≡ 1
  one_lem x a b = omega (arith, a, b)

  right_lem : (x y m : ℕ) → m ≡ max x y → m ≡ 1 → x ≤ 0 → y ≡ 1
  right_lem x y m e f b = omega (arith, e, f, b)

  within_lem : (j : ℕ) → mark_of new j ≡ 1 → j < length numbers
  within_lem j e = by_mark (cases_lt 0 (mark_of old j))
    where
      by_mark : (0 < mark_of old j) ⊎ (mark_of old j ≤ 0) → j < length numbers
      by_mark (inl b) = covers.within j (one_lem _ (bit_at-lt _ (j % 64)) b)
      by_mark (inr b) =
          subst (λ n. j < n) long
          (step_covers.within j (right_lem (mark_of old j) (mark_of added j) (mark_of new j)
          (joined.marks j) e b))

  pub joined_covers : MarksCover new numbers
  joined_covers = record {
    unmarked = λ j e. covers.unmarked j (none_lem (mark_of old j) (mark_of added j) (mark_of new j)
        (joined.marks j) e).0;
    within = within_lem;
  }

  pub joined_covers_step : MarksCover new step
  joined_covers_step = record {
    unmarked = λ j e. step_covers.unmarked j (none_lem (mark_of old j) (mark_of added j)
        (mark_of new j) (joined.marks j) e).1;
    within = λ j e. subst (λ n. j < n) (sym long) (within_lem j e);
  }

-- ---- products that are 0

pub size_zero : (x : ℤ) → unsigned_abs x ≡ 0 → x ≡ pos 0
size_zero (pos n) e = ap pos e
size_zero (negsuc n) e = absurd (omega (arith, e))

size_above : (b : ℤ) → ¬ (b ≡ pos 0) → 0 < unsigned_abs b
size_above (pos zero) n = absurd (n refl)
size_above (pos (suc b)) n = omega arith
size_above (negsuc b) n = omega arith

factor_lem : (a b : ℕ) → a * b ≡ 0 → 0 < b → a ≡ 0
factor_lem zero b e h = refl
factor_lem (suc a) b e h = absurd (omega (arith, e, h))

pub factor_zero : (x y : ℤ) → x *ℤ y ≡ pos 0 → ¬ (y ≡ pos 0) → x ≡ pos 0
factor_zero x y e n =
    size_zero x (factor_lem (unsigned_abs x) (unsigned_abs y)
    (sym (unsigned_abs-mul x y) ∙ ap unsigned_abs e) (size_above y n))

pub zero_times : (y : ℤ) → pos 0 *ℤ y ≡ pos 0
zero_times y = *ℤ_comm (pos 0) y ∙ *ℤ-zero y

pub lowered_zeros : (over : ℕ) (by : ℤ) → lowered_num (pos 0) over by (pos 0) ≡ pos 0
lowered_zeros over by = ap₂ (λ x y. x +ℤ neg_ℤ y) (zero_times (pos over)) (*ℤ-zero by)

-- ---- rows whose marks stay

-- numbers that are worked out of those of two rows, and are 0 where these are
pub covers_made : (R : ℤ → ℤ → ℤ → Type 0) → ((x : ℤ) → R (pos 0) (pos 0) x → x ≡ pos 0)
    → (marks : List ℕ) (numbers step made : List ℤ) → MarksCover marks numbers
    → MarksCover marks step → length made ≡ length numbers
    → ((j : ℕ) → j < length numbers → R (slice_index_or numbers j (pos 0))
    (slice_index_or step j (pos 0)) (slice_index_or made j (pos 0)))
    → MarksCover marks made
covers_made R zeros marks numbers step made covers step_covers long is = record {
  unmarked = λ j e. by_end j e (cases_lt j (length numbers));
  within = λ j e. subst (λ n. j < n) (sym long) (covers.within j e);
}
  where
    by_end : (j : ℕ) → mark_of marks j ≡ 0
        → (j < length numbers) ⊎ (length numbers ≤ j) → slice_index_or made j (pos 0) ≡ pos 0
    by_end j e (inl b) =
        zeros _ (subst (λ y. R (pos 0) y (slice_index_or made j (pos 0))) (step_covers.unmarked j e)
        (subst (λ x. R x (slice_index_or step j (pos 0)) (slice_index_or made j (pos 0)))
        (covers.unmarked j e) (is j b)))
    by_end j e (inr h) = get_or_past made j (pos 0) (subst (λ n. n ≤ j) (sym long) h)

pub covers_divided : (by : ℤ) (marks : List ℕ) (old new : List ℤ) → ¬ (by ≡ pos 0)
    → MarksCover marks old → AreDivided by (length old) old new → MarksCover marks new
covers_divided by marks old new nonzero covers divided =
    covers_made (λ a b x. a ≡ x *ℤ by) (λ x e. factor_zero x by (sym e) nonzero) marks old old new
    covers covers divided.long divided.divided

pub covers_zeros : (marks : List ℕ) (numbers : List ℤ) → ((j : ℕ) → mark_of marks j ≡ 0)
    → ((j : ℕ) → slice_index_or numbers j (pos 0) ≡ pos 0) → MarksCover marks numbers
covers_zeros marks numbers none h = record {
  unmarked = λ j e. h j;
  within = λ j e. absurd (one_zero (mark_of marks j) e (none j));
}

-- numbers that are multiplied
pub covers_scaled : (over : ℤ) (marks : List ℕ) (numbers made : List ℤ) → MarksCover marks numbers
    → AreScaled over (length numbers) numbers made → MarksCover marks made
covers_scaled over marks numbers made covers scaled =
    covers_made (λ a b x. x ≡ a *ℤ over) (λ x e. e ∙ zero_times over) marks numbers numbers made
    covers covers scaled.long scaled.scaled

-- numbers that are lowered
pub covers_lowered : (over : ℕ) (by : ℤ) (marks : List ℕ) (numbers step made : List ℤ)
    → MarksCover marks numbers → MarksCover marks step
    → AreNumeratorsLowered over by step (length numbers) numbers made → MarksCover marks made
covers_lowered over by marks numbers step made covers step_covers lowered =
    covers_made (λ a b x. x ≡ lowered_num a over by b) (λ x e. e ∙ lowered_zeros over by) marks
    numbers step made covers step_covers lowered.long lowered.lowered

pub covers_shrunk : (over : ℕ) (by : ℤ) (common : ℕ) (marks : List ℕ) (numbers step made : List ℤ)
    → 0 < common → MarksCover marks numbers → MarksCover marks step
    → AreShrunk over by step common (length numbers) numbers made → MarksCover marks made
covers_shrunk over by common marks numbers step made above covers step_covers shrunk =
    covers_made (λ a b x. lowered_num a over by b ≡ x *ℤ pos common)
    (λ x e. factor_zero x (pos common) (sym e ∙ lowered_zeros over by)
    (λ z. zero_lem common above z)) marks numbers step made covers step_covers shrunk.long
    shrunk.shrunk
  where
    zero_lem : (n : ℕ) → 0 < n → pos n ≡ pos 0 → ⊥
    zero_lem n h e = omega (arith, h, ap unsigned_abs e)

-- ---- rows that are rebuilt

pub made_zeros : (old new : List ℤ) → AreNumeratorsMade (λ _. pos 0) (length old) old new → (j : ℕ)
    → slice_index_or new j (pos 0) ≡ pos 0
made_zeros old new made j = by_end (cases_lt j (length old))
  where
    by_end : (j < length old) ⊎ (length old ≤ j) → slice_index_or new j (pos 0) ≡ pos 0
    by_end (inl b) = made.made j b
    by_end (inr h) = made.others j h ∙ get_or_past old j (pos 0) h

-- a list whose columns are all marked
pub covers_all : (marks : List ℕ) (numbers : List ℤ) (n : ℕ) → n ≡ length numbers
    → ((j : ℕ) → j < n → mark_of marks j ≡ 1) → ((j : ℕ) → n ≤ j → mark_of marks j ≡ 0)
    → MarksCover marks numbers
covers_all marks numbers n long marked others = record {
  unmarked = λ j e. by_end j e (cases_lt j n);
  within = λ j e. in_lem j e (cases_lt j n);
}
  where
    in_lem : (j : ℕ) → mark_of marks j ≡ 1 → (j < n) ⊎ (n ≤ j) → j < length numbers
    in_lem j e (inl b) = subst (λ m. j < m) long b
    in_lem j e (inr b) = absurd (one_zero (mark_of marks j) e (others j b))

    by_end : (j : ℕ) → mark_of marks j ≡ 0 → (j < n) ⊎ (n ≤ j)
        → slice_index_or numbers j (pos 0) ≡ pos 0
    by_end j e (inl b) = absurd (one_zero (mark_of marks j) (marked j b) e)
    by_end j e (inr b) = get_or_past numbers j (pos 0) (subst (λ m. m ≤ j) long b)

pub covers_put : (marks next : List ℕ) (numbers : List ℤ) (j : ℕ) (x : ℤ)
    → MarksCover marks numbers → IsColumnMarked j marks next → j < length numbers
    → MarksCover next (slice_set numbers j x)
covers_put marks next numbers j x covers marked within = record {
  unmarked = λ k e. same_or_other (slice_index_or (slice_set numbers j x) k (pos 0) ≡ pos 0) k j
      (λ f. absurd (one_zero (mark_of next k) (ap (mark_of next) f ∙ marked.here) e))
      (λ n. get_or-set_other numbers j k x (pos 0) n
      ∙ covers.unmarked k (sym (marked.others k n) ∙ e));
  within = λ k e. subst (λ n. k < n) (sym (length-set numbers j x))
      (same_or_other (k < length numbers) k j
      (λ f. subst (λ i. i < length numbers) (sym f) within)
      (λ n. covers.within k (sym (marked.others k n) ∙ e)));
}
