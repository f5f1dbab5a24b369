-- The rows that a pivot changes, noted from the lowest on.
use Rattle.std.specs.Prelude.{◌≡◌, ℕ, zero, suc, ◌+◌, ◌-◌, ◌*◌, ◌/◌, ◌%◌, ◌<◌, ◌≤◌, ◌⊎◌, Bool, IsTrue, true, false, List, length, min, nat_eq, slice_index, slice_set, refl}
use Rattle.std.proofs.Common.{inl, inr, sym, ◌∙◌, add-zero, ap, arith, eqb-true, subst, subst₂}
use Rattle.std.specs.Int.{bit_at}
use Rattle.std.proofs.lemmas.Bool.{cases_lt}
use Rattle.std.proofs.lemmas.List.{get_or-set_other, get_or-set_same, length-set}
use Rattle.ratio_core.specs.Rational.{zero_ℚ}
use Rattle.simplex_laws.specs.BoundedSumLaws.{same_or_other}
use Rattle.sparse_board.specs.declared.marks.Marks.{Marks}
use Rattle.sparse_board.specs.declared.row.Row.{Row}
use Rattle.sparse_board.specs.Changes.{AreChangesNoted, ListsChanges}
use Rattle.sparse_board.specs.Marking.{AreNumbersMarked}
use Rattle.sparse_board.specs.Marks.{IsWord}
use Rattle.sparse_board.specs.Rows.{SameNow, number_in_row, numbers}
use Rattle.sparse_board.proofs.WordSteps.{between_bits}

-- a row whose bit of a word isn't set has no number
pub unset_zero : (rows : List Row) (marks : Marks) (w q k word : ℕ) → AreNumbersMarked w marks rows
    → q < w → marks.rows ≡ length rows → IsWord q k word marks
    → (b : ℕ) → b < 64 → k * 64 + b < length rows → bit_at word b ≡ 0
    → number_in_row rows (k * 64 + b) q ≡ zero_ℚ
unset_zero rows marks w q k word marked column long read b small within e =
    marked (k * 64 + b) within q column
    (read (k * 64 + b) (subst (λ n. k * 64 + b < n) (sym long) within) (row_lem k b small)
    ∙ ap (λ n. nat_eq (bit_at word n) 1) (rest_lem k b small) ∙ ap (λ x. nat_eq x 1) e)
  where
    row_lem : (k b : ℕ) → b < 64 → (k * 64 + b) / 64 ≡ k
    row_lem k b h = omega (arith, h)

    rest_lem : (k b : ℕ) → b < 64 → (k * 64 + b) % 64 ≡ b
    rest_lem k b h = omega (arith, h)

-- a row that isn't counted is the pivot's, or has no number
pub other_row : (rows : List Row) (r q i : ℕ) (is_zero : Bool) (more : ℕ)
    → (IsTrue is_zero → number_in_row rows i q ≡ zero_ℚ)
    → (more ≡ 0 → is_zero ≡ false → IsTrue (nat_eq i r)) → more ≡ 0 → ¬ (i ≡ r)
    → number_in_row rows i q ≡ zero_ℚ
other_row rows r q i is_zero more zero_lem none e n = by_test is_zero refl
  where
    by_test : (t : Bool) → is_zero ≡ t → number_in_row rows i q ≡ zero_ℚ
    by_test true f = zero_lem f
    by_test false f = absurd (n (eqb-true i r (none e f)))

module _ (rows : List Row) (r q : ℕ) where
  pub noted_none : (items : List ℕ) → length items ≡ length rows
      → AreChangesNoted rows r q items 0 0
  noted_none items long = record {
    few = omega arith;
    row_end = omega arith;
    room = long;
    within = λ k b. absurd (omega (arith, b));
    rising = λ k l a b. absurd (omega (arith, b));
    others = λ k b. absurd (omega (arith, b));
    found = λ j b. absurd (omega (arith, b));
  }

  -- rows without a number are passed over
  pub noted_skip : (items : List ℕ) (count i to : ℕ) → AreChangesNoted rows r q items count i
      → i ≤ to → to ≤ length rows
      → ((j : ℕ) → i ≤ j → j < to → number_in_row rows j q ≡ zero_ℚ)
      → AreChangesNoted rows r q items count to
  noted_skip items count i to h past row_end zeros = record {
    few = at_most_lem count i to h.few past;
    row_end = row_end;
    room = h.room;
    within = λ k c. below_lem _ i to (h.within k c) past;
    rising = h.rising;
    others = h.others;
    found = λ j c n. by_place j c n (cases_lt j i);
  }
    where
      at_most_lem : (a b c : ℕ) → a ≤ b → b ≤ c → a ≤ c
      at_most_lem a b c x y = omega (arith, x, y)

      below_lem : (a b c : ℕ) → a < b → b ≤ c → a < c
      below_lem a b c x y = omega (arith, x, y)

      by_place : (j : ℕ) → j < to → ¬ (j ≡ r) → (j < i) ⊎ (i ≤ j)
          → (number_in_row rows j q ≡ zero_ℚ) ⊎ ((k : ℕ) × (k < count)
          × (slice_index items k ≡ j))
      by_place j c n (inl l) = h.found j l n
      by_place j c n (inr l) = inl (zeros j l c)

  -- a row that is written behind those that are noted, and one that needn't be noted
  noted_spare : (items : List ℕ) (count i x : ℕ) → AreChangesNoted rows r q items count i
      → i < length rows → (¬ (i ≡ r) → number_in_row rows i q ≡ zero_ℚ)
      → AreChangesNoted rows r q (slice_set items count x) count (i + 1)
  noted_spare items count i x h below zero_lem = record {
    few = omega (arith, h.few);
    row_end = omega (arith, below);
    room = length-set items count x ∙ h.room;
    within = λ k c. subst (λ n. n < i + 1) (sym (off k c)) (omega (arith, h.within k c));
    rising = λ k l a c. subst₂ (λ m n. m < n) (sym (off k (less_lem k l count a c)))
        (sym (off l c)) (h.rising k l a c);
    others = λ k c. subst (λ n. ¬ (n ≡ r)) (sym (off k c)) (h.others k c);
    found = λ j c n. same_or_other ((number_in_row rows j q ≡ zero_ℚ) ⊎ ((k : ℕ) × (k < count)
        × (slice_index (slice_set items count x) k ≡ j))) j i
        (λ e. inl (subst (λ k. number_in_row rows k q ≡ zero_ℚ) (sym e)
        (zero_lem (λ f. n (e ∙ f)))))
        (λ m. by_old j (h.found j (omega (arith, c, m)) n));
  }
    where
      less_lem : (k l n : ℕ) → k < l → l < n → k < n
      less_lem k l n a b = omega (arith, a, b)

      apart_lem : (k n : ℕ) → k < n → k ≡ n → ⊥
      apart_lem k n b e = omega (arith, b, e)

      off : (k : ℕ) → k < count → slice_index (slice_set items count x) k ≡ slice_index items k
      off k c = get_or-set_other items count k x 0 (apart_lem k count c)

      by_old : (j : ℕ) → (number_in_row rows j q ≡ zero_ℚ) ⊎ ((k : ℕ) × (k < count)
          × (slice_index items k ≡ j))
          → (number_in_row rows j q ≡ zero_ℚ) ⊎ ((k : ℕ) × (k < count)
          × (slice_index (slice_set items count x) k ≡ j))
      by_old j (inl z) = inl z
      by_old j (inr f) = inr (f.0, f.1, off f.0 f.1 ∙ f.2)

  -- a row that is noted
  noted_here : (items : List ℕ) (count i : ℕ) → AreChangesNoted rows r q items count i
      → i < length rows → ¬ (i ≡ r)
      → AreChangesNoted rows r q (slice_set items count i) (count + 1) (i + 1)
  noted_here items count i h b other = record {
    few = omega (arith, h.few);
    row_end = omega (arith, b);
    room = length-set items count i ∙ h.room;
    within = λ k c. same_or_other (slice_index new k < i + 1) k count
        (λ e. subst (λ n. slice_index new n < i + 1) (sym e)
        (subst (λ n. n < i + 1) (sym at) (omega arith)))
        (λ m. subst (λ n. n < i + 1) (sym (off k m))
        (omega (arith, h.within k (omega (arith, c, m)))));
    rising = λ k l a c. same_or_other (slice_index new k < slice_index new l) l count
        (λ e. subst (λ n. slice_index new k < slice_index new n) (sym e)
        (subst (λ n. slice_index new k < n) (sym at)
        (subst (λ n. n < i) (sym (off k (λ f. omega (arith, a, c, f, e))))
        (h.within k (omega (arith, a, e))))))
        (λ m. subst (λ n. slice_index new k < n) (sym (off l m))
        (subst (λ n. n < slice_index items l) (sym (off k (λ f. omega (arith, a, c, f, m))))
        (h.rising k l a (omega (arith, c, m)))));
    others = λ k c. same_or_other (¬ (slice_index new k ≡ r)) k count
        (λ e. subst (λ n. ¬ (n ≡ r)) (sym (ap (slice_index new) e ∙ at)) other)
        (λ m. subst (λ n. ¬ (n ≡ r)) (sym (off k m)) (h.others k (omega (arith, c, m))));
    found = λ j c n. same_or_other ((number_in_row rows j q ≡ zero_ℚ) ⊎ ((k : ℕ)
        × (k < count + 1) × (slice_index new k ≡ j))) j i
        (λ e. inr (count, omega arith, at ∙ sym e))
        (λ m. by_old j (h.found j (omega (arith, c, m)) n));
  }
    where
      new : List ℕ
      new = slice_set items count i

      at : slice_index new count ≡ i
      at = get_or-set_same items count i 0 (omega (arith, h.few, h.room, b))

      off : (k : ℕ) → ¬ (k ≡ count) → slice_index new k ≡ slice_index items k
      off k m = get_or-set_other items count k i 0 m

      by_old : (j : ℕ) → (number_in_row rows j q ≡ zero_ℚ) ⊎ ((k : ℕ) × (k < count)
          × (slice_index items k ≡ j))
          → (number_in_row rows j q ≡ zero_ℚ) ⊎ ((k : ℕ) × (k < count + 1)
          × (slice_index new k ≡ j))
      by_old j (inl z) = inl z
      by_old j (inr f) =
          inr (f.0, omega (arith, f.1), off f.0 (λ e. omega (arith, f.1, e)) ∙ f.2)

  -- a row that is written, and counted where it changes
  pub noted_next : (items : List ℕ) (count i more : ℕ) → AreChangesNoted rows r q items count i
      → i < length rows → more ≤ 1
      → (more ≡ 0 → ¬ (i ≡ r) → number_in_row rows i q ≡ zero_ℚ) → (more ≡ 1 → ¬ (i ≡ r))
      → AreChangesNoted rows r q (slice_set items count i) (count + more) (i + 1)
  noted_next items count i zero h b few none one =
      subst (λ n. AreChangesNoted rows r q (slice_set items count i) n (i + 1))
      (sym (add-zero count)) (noted_spare items count i i h b (none refl))
  noted_next items count i (suc zero) h b few none one = noted_here items count i h b (one refl)
  noted_next items count i (suc (suc more)) h b few none one = absurd (omega (arith, few))

  -- the rows between two bits of a word that are set
  pub noted_bits : (items : List ℕ) (count start word bit next end : ℕ)
      → AreChangesNoted rows r q items count (start + min bit end) → bit ≤ next
      → start ≤ length rows → end ≡ min 64 (length rows - start)
      → ((k : ℕ) → bit ≤ k → k < next → bit_at word k ≡ 0)
      → ((k : ℕ) → k < 64 → start + k < length rows → bit_at word k ≡ 0
      → number_in_row rows (start + k) q ≡ zero_ℚ)
      → AreChangesNoted rows r q items count (start + min next end)
  noted_bits items count start word bit next end h past within is passed others =
      noted_skip items count (start + min bit end) (start + min next end) h
      (order_lem start bit next end past) (within_lem start next end (length rows) within is)
      (between_bits (λ j. number_in_row rows j q ≡ zero_ℚ) (length rows) start word bit next end
      within is passed others)
    where
      order_lem : (s b n e : ℕ) → b ≤ n → s + min b e ≤ s + min n e
      order_lem s b n e h = omega (arith, h)

      within_lem : (s n e l : ℕ) → s ≤ l → e ≡ min 64 (l - s) → s + min n e ≤ l
      within_lem s n e l h i = omega (arith, h, i)

  pub noted_all : (items : List ℕ) (count i : ℕ) → AreChangesNoted rows r q items count i
      → i ≡ length rows → ListsChanges rows r q items count
  noted_all items count i h e = record {
    listed = record {
      within = λ k b. subst (λ n. slice_index items k < n) e (h.within k b);
      rising = h.rising;
    };
    others = h.others;
    passed = λ j b n none. by_found j none (h.found j (subst (λ m. j < m) (sym e) b) n);
  }
    where
      by_found : (j : ℕ) → ((k : ℕ) → k < count → ¬ (slice_index items k ≡ j))
          → (number_in_row rows j q ≡ zero_ℚ) ⊎ ((k : ℕ) × (k < count)
          × (slice_index items k ≡ j)) → number_in_row rows j q ≡ zero_ℚ
      by_found j none (inl z) = z
      by_found j none (inr f) = absurd (none f.0 f.1 f.2)

-- rows that stand as they did
pub lists_same : (before after : List Row) (r q : ℕ) (items : List ℕ) (count : ℕ)
    → length after ≡ length before → SameNow before after → ListsChanges before r q items count
    → ListsChanges after r q items count
lists_same before after r q items count long same h = record {
  listed = record {
    within = λ k b. subst (λ n. slice_index items k < n) (sym long) (h.listed.within k b);
    rising = h.listed.rising;
  };
  others = h.others;
  passed = λ i b n none. ap (λ o. numbers o q) (same i)
      ∙ h.passed i (subst (λ m. i < m) long b) n none;
}
