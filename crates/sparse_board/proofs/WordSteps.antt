-- Bits of a word that are looked at, and words that are joined, one after another.
use Rattle.std.specs.Prelude.{◌≡◌, ℕ, zero, suc, ◌+◌, ◌-◌, ◌<◌, ◌≤◌, ◌⊎◌, ◌||◌, Bool, true, false, nat_eq, List, length, max, min, bit_or, slice_index, slice_set, refl}
use Rattle.std.proofs.Common.{inl, inr, sym, ◌∙◌, ap, arith, subst, true≢false}
use Rattle.std.specs.Int.{bit_at}
use Rattle.std.proofs.lemmas.Bool.{cases_lt}
use Rattle.std.proofs.lemmas.List.{get_or-set_other, get_or-set_same}
use Rattle.std.proofs.lemmas.Nat.Bits.{bit_at-lt, bit_at-zero, bit_at_or}
use Rattle.simplex_laws.specs.BoundedSumLaws.{same_or_other}
use Rattle.whole_rows.specs.Bits.{IsBitCleared, IsLowestBit}
use Rattle.whole_rows.proofs.BitSteps.{IsRest, one_zero, rest_next}
use Rattle.sparse_board.specs.Words.{AreJoined, Clears, Leaves}

-- ---- the lowest of the bits that are left

-- a word whose lowest bit is known isn't 0
pub lowest_above : (word k : ℕ) → IsLowestBit word k → 0 < word
lowest_above zero k h = absurd (one_zero (bit_at 0 k) h.set (bit_at-zero k))
lowest_above (suc word) k h = omega arith

-- `bit` is the lowest of a word's bits that are left, or none is
pub record IsNextBit (word rest bit : ℕ) : Type 0 where
  pub left : IsRest word rest bit
  pub set : bit < 64 → bit_at rest bit ≡ 1

pub next_first : (word bit : ℕ) → ((k : ℕ) → 0 ≤ k → k < bit → bit_at word k ≡ 0)
    → (bit < 64 → bit_at word bit ≡ 1) → IsNextBit word word bit
next_first word bit passed set = record {
  left = record { below = λ i b. passed i (omega arith) b; same = λ i a. refl };
  set = set;
}

pub next_lowest : (word rest bit : ℕ) → IsNextBit word rest bit → bit < 64 → IsLowestBit rest bit
next_lowest word rest bit h small =
    record { within = small; set = h.set small; below = h.left.below }

-- the bit that comes after it
pub record IsBitAfter (word bit left next : ℕ) : Type 0 where
  pub after : bit < next
  pub passed : (k : ℕ) → bit < k → k < next → bit_at word k ≡ 0
  pub next_bit : IsNextBit word left next

pub bit_cleared : (word rest bit : ℕ) → IsNextBit word rest bit → bit < 64 → (left next : ℕ)
    → ((k : ℕ) → IsLowestBit rest k → IsBitCleared k rest left)
    → ((k : ℕ) → 0 ≤ k → k < next → bit_at left k ≡ 0) → (next < 64 → bit_at left next ≡ 1)
    → IsBitAfter word bit left next
bit_cleared word rest bit h small left next cleared passed set = record {
  after = after_lem;
  passed = λ k a b. sym (rest_lem.same k (omega (arith, a))) ∙ passed k (omega arith) b;
  next_bit = record {
    left = record {
      below = λ i b. passed i (omega arith) b;
      same = λ i a. rest_lem.same i (order_lem bit next i after_lem a);
    };
    set = set;
  };
}
  where
    order_lem : (bit next i : ℕ) → bit < next → next ≤ i → bit + 1 ≤ i
    order_lem bit next i a b = omega (arith, a, b)

    small_lem : (bit next : ℕ) → next ≤ bit → bit < 64 → next < 64
    small_lem bit next a b = omega (arith, a, b)

    low : IsLowestBit rest bit
    low = next_lowest word rest bit h small

    rest_lem : IsRest word left (bit + 1)
    rest_lem = rest_next word rest bit bit h.left low left (cleared bit low)

    after_lem : bit < next
    after_lem = by_order (cases_lt bit next)
      where
        by_order : (bit < next) ⊎ (next ≤ bit) → bit < next
        by_order (inl b) = b
        by_order (inr b) =
            absurd (one_zero (bit_at left next) (set (small_lem bit next b small))
            (rest_lem.below next (omega (arith, b))))

-- ---- bits that are cleared one after another

pub bit_none : (x : ℕ) → x < 2 → nat_eq x 1 ≡ false → x ≡ 0
bit_none zero b e = refl
bit_none (suc zero) b e = absurd (true≢false e)
bit_none (suc (suc x)) b e = absurd (omega (arith, b))

pub bit_one : (x : ℕ) → x < 2 → nat_eq x 1 ≡ true → x ≡ 1
bit_one zero b e = absurd (true≢false (sym e))
bit_one (suc zero) b e = refl
bit_one (suc (suc x)) b e = absurd (omega (arith, b))

-- of the bits below `bit` only those of rows with P are cleared, and the others stay
pub record AreLookedTo (P : ℕ → Type 0) (n start word kept bit : ℕ) : Type 0 where
  pub cleared : (k : ℕ) → k < bit → k < 64 → start + k < n → bit_at word k ≡ 1
      → bit_at kept k ≡ 0 → P (start + k)
  pub same : (k : ℕ) → bit ≤ k → k < 64 → bit_at kept k ≡ bit_at word k

pub looked_first : (P : ℕ → Type 0) (n start word bit : ℕ)
    → ((k : ℕ) → 0 ≤ k → k < bit → bit_at word k ≡ 0) → AreLookedTo P n start word word bit
looked_first P n start word bit passed = record {
  cleared = λ k b c d e f. absurd (one_zero (bit_at word k) e (passed k (omega arith) b));
  same = λ k b c. refl;
}

module _ (P : ℕ → Type 0) (n start word kept bit : ℕ) (h : AreLookedTo P n start word kept bit)
  where
    pub looked_more : (new next : ℕ) (clears : Bool) → bit < next → (clears ≡ true → P (start + bit))
        → (clears ≡ false → bit_at new bit ≡ bit_at kept bit)
        → ((i : ℕ) → i < 64 → ¬ (i ≡ bit) → bit_at new i ≡ bit_at kept i)
        → ((k : ℕ) → bit < k → k < next → bit_at word k ≡ 0) → AreLookedTo P n start word new next
    looked_more new next clears after holds stays others passed = record {
      cleared = λ k b c d e f. same_or_other (P (start + k)) k bit
          (λ g. subst (λ m. P (start + m)) (sym g)
          (by_test clears refl (subst (λ m. bit_at word m ≡ 1) g e)
          (subst (λ m. bit_at new m ≡ 0) g f) (subst (λ m. m < 64) g c)))
          (λ m. by_order k b c d e f m (cases_lt k bit));
      same = λ k b c. others k c (apart_lem k bit next after b)
          ∙ h.same k (above_lem k bit next after b) c;
    }
      where
        apart_lem : (k bit next : ℕ) → bit < next → next ≤ k → k ≡ bit → ⊥
        apart_lem k bit next a b e = omega (arith, a, b, e)

        above_lem : (k bit next : ℕ) → bit < next → next ≤ k → bit ≤ k
        above_lem k bit next a b = omega (arith, a, b)

        beyond_lem : (k bit : ℕ) → bit ≤ k → ¬ (k ≡ bit) → bit < k
        beyond_lem k bit a m = omega (arith, a, m)

        by_test : (t : Bool) → clears ≡ t → bit_at word bit ≡ 1 → bit_at new bit ≡ 0 → bit < 64
            → P (start + bit)
        by_test true t e f c = holds t
        by_test false t e f c =
            absurd (one_zero (bit_at word bit) e
            (sym (h.same bit (omega arith) c) ∙ sym (stays t) ∙ f))

        by_order : (k : ℕ) → k < next → k < 64 → start + k < n → bit_at word k ≡ 1
            → bit_at new k ≡ 0 → ¬ (k ≡ bit) → (k < bit) ⊎ (bit ≤ k) → P (start + k)
        by_order k b c d e f m (inl l) = h.cleared k l c d e (sym (others k c m) ∙ f)
        by_order k b c d e f m (inr l) =
            absurd (one_zero (bit_at word k) e (passed k (beyond_lem k bit l m) b))

    pub looked_all : (end : ℕ) → start ≤ n → end ≡ min 64 (n - start) → end ≤ bit
        → Clears P n start word kept
    looked_all end within is past k b c e f =
        h.cleared k (end_lem k start n end bit b c within is past) b c e f
      where
        end_lem : (k s n e b : ℕ) → k < 64 → s + k < n → s ≤ n → e ≡ min 64 (n - s) → e ≤ b → k < b
        end_lem k s n e b c d h i p = omega (arith, c, d, h, i, p)

-- the rows with a bit below `bit` that is left have P
pub record AreLeftTo (P : ℕ → Type 0) (n start kept bit : ℕ) : Type 0 where
  pub left : (k : ℕ) → k < bit → k < 64 → start + k < n → bit_at kept k ≡ 1 → P (start + k)

pub left_first : (P : ℕ → Type 0) (n start word bit : ℕ)
    → ((k : ℕ) → 0 ≤ k → k < bit → bit_at word k ≡ 0) → AreLeftTo P n start word bit
left_first P n start word bit passed = record {
  left = λ k b c d e. absurd (one_zero (bit_at word k) e (passed k (omega arith) b));
}

module _ (P Q : ℕ → Type 0) (n start word kept bit : ℕ) (h : AreLeftTo P n start kept bit)
    (looked : AreLookedTo Q n start word kept bit) where
  pub left_more : (new next : ℕ) (clears : Bool) → (clears ≡ false → P (start + bit))
      → (clears ≡ true → bit_at new bit ≡ 0)
      → ((i : ℕ) → i < 64 → ¬ (i ≡ bit) → bit_at new i ≡ bit_at kept i)
      → ((k : ℕ) → bit < k → k < next → bit_at word k ≡ 0) → AreLeftTo P n start new next
  left_more new next clears holds cleared others passed = record {
    left = λ k b c d e. same_or_other (P (start + k)) k bit
        (λ g. subst (λ m. P (start + m)) (sym g)
        (by_test clears refl (subst (λ m. bit_at new m ≡ 1) g e)))
        (λ m. by_order k b c d e m (cases_lt k bit));
  }
    where
      beyond_lem : (k bit : ℕ) → bit ≤ k → ¬ (k ≡ bit) → bit < k
      beyond_lem k bit a m = omega (arith, a, m)

      by_test : (t : Bool) → clears ≡ t → bit_at new bit ≡ 1 → P (start + bit)
      by_test true t e = absurd (one_zero (bit_at new bit) e (cleared t))
      by_test false t e = holds t

      by_order : (k : ℕ) → k < next → k < 64 → start + k < n → bit_at new k ≡ 1 → ¬ (k ≡ bit)
          → (k < bit) ⊎ (bit ≤ k) → P (start + k)
      by_order k b c d e m (inl l) = h.left k l c d (sym (others k c m) ∙ e)
      by_order k b c d e m (inr l) =
          absurd (one_zero (bit_at new k) e (others k c m ∙ looked.same k l c
          ∙ passed k (beyond_lem k bit l m) b))

  pub left_all : (end : ℕ) → start ≤ n → end ≡ min 64 (n - start) → end ≤ bit
      → Leaves P n start kept
  left_all end within is past k b c e =
      h.left k (end_lem k start n end bit b c within is past) b c e
    where
      end_lem : (k s n e b : ℕ) → k < 64 → s + k < n → s ≤ n → e ≡ min 64 (n - s) → e ≤ b → k < b
      end_lem k s n e b c d h i p = omega (arith, c, d, h, i, p)

-- what a bit that isn't set says of its row, of the rows between two bits that are set
pub between_bits : (P : ℕ → Type 0) (n start word bit next end : ℕ) → start ≤ n
    → end ≡ min 64 (n - start) → ((k : ℕ) → bit ≤ k → k < next → bit_at word k ≡ 0)
    → ((k : ℕ) → k < 64 → start + k < n → bit_at word k ≡ 0 → P (start + k))
    → (j : ℕ) → start + min bit end ≤ j → j < start + min next end → P j
between_bits P n start word bit next end within is passed others j f t =
    subst P (place_lem j start bit end f)
    (others (j - start) (small_lem j start next end n t is)
    (below_lem j start bit next end n f t within is)
    (passed (j - start) (above_lem j start bit next end f t)
    (before_lem j start bit next end f t)))
  where
    place_lem : (k s b e : ℕ) → s + min b e ≤ k → s + (k - s) ≡ k
    place_lem k s b e h = omega (arith, h)

    small_lem : (k s n e l : ℕ) → k < s + min n e → e ≡ min 64 (l - s) → k - s < 64
    small_lem k s n e l h i = omega (arith, h, i)

    below_lem : (k s b n e l : ℕ) → s + min b e ≤ k → k < s + min n e → s ≤ l
        → e ≡ min 64 (l - s) → s + (k - s) < l
    below_lem k s b n e l f t h i = omega (arith, f, t, h, i)

    above_lem : (k s b n e : ℕ) → s + min b e ≤ k → k < s + min n e → b ≤ k - s
    above_lem k s b n e f t = omega (arith, f, t)

    before_lem : (k s b n e : ℕ) → s + min b e ≤ k → k < s + min n e → k - s < n
    before_lem k s b n e f t = omega (arith, f, t)

-- ---- words that are joined

pub words_none : (from to : ℕ) (old : List ℕ) → AreJoined from to 0 old old
words_none from to old = record {
  joined = λ k b. absurd (omega (arith, b));
  others = λ p n. refl;
}

module _ (from to count n : ℕ) (old now : List ℕ) (x : ℕ) (h : AreJoined from to n old now)
    (below : n < count) (apart : (to ≤ from) ⊎ (from + count ≤ to))
    (within : to + n < length now)
    (is : x ≡ bit_or (slice_index now (to + n)) (slice_index now (from + n))) where
  -- the word that is joined with is as it was
  ahead : (k : ℕ) → k < n → ¬ (from + n ≡ to + k)
  ahead k b e = by_order apart
    where
      after_lem : (from to n k : ℕ) → to ≤ from → k < n → from + n ≡ to + k → ⊥
      after_lem from to n k a b e = absurd (omega (arith, a, b, e))

      before_lem : (from to n k count : ℕ) → from + count ≤ to → n < count → from + n ≡ to + k → ⊥
      before_lem from to n k count a b e = absurd (omega (arith, a, b, e))

      by_order : (to ≤ from) ⊎ (from + count ≤ to) → ⊥
      by_order (inl a) = after_lem from to n k a b e
      by_order (inr a) = before_lem from to n k count a below e

  other_lem : (k : ℕ) → k < n → ¬ (to + n ≡ to + k)
  other_lem k b e = absurd (omega (arith, b, e))

  here : slice_index (slice_set now (to + n) x) (to + n)
      ≡ bit_or (slice_index old (to + n)) (slice_index old (from + n))
  here =
      get_or-set_same now (to + n) x 0 within ∙ is
      ∙ (λ z. bit_or (h.others (to + n) other_lem z) (h.others (from + n) ahead z))

  pub words_more : AreJoined from to (n + 1) old (slice_set now (to + n) x)
  words_more = record {
    joined = λ k b. same_or_other (slice_index (slice_set now (to + n) x) (to + k)
        ≡ bit_or (slice_index old (to + k)) (slice_index old (from + k))) k n
        (λ e. subst_at k e)
        (λ m. get_or-set_other now (to + n) (to + k) x 0 (λ e. m (omega (arith, e)))
        ∙ h.joined k (omega (arith, b, m)));
    others = λ p off. get_or-set_other now (to + n) p x 0 (off n (omega arith))
        ∙ h.others p (λ k b. off k (omega (arith, b)));
  }
    where
      subst_at : (k : ℕ) → k ≡ n → slice_index (slice_set now (to + n) x) (to + k)
          ≡ bit_or (slice_index old (to + k)) (slice_index old (from + k))
      subst_at k e =
          ap (λ m. slice_index (slice_set now (to + n) x) (to + m)) e ∙ here
          ∙ sym (ap (λ m. bit_or (slice_index old (to + m)) (slice_index old (from + m))) e)

-- a bit of a word that is joined
max_one : (x y : ℕ) → x < 2 → y < 2 → nat_eq (max x y) 1 ≡ (nat_eq x 1 || nat_eq y 1)
max_one zero zero a b = refl
max_one zero (suc zero) a b = refl
max_one zero (suc (suc y)) a b = absurd (omega (arith, b))
max_one (suc zero) zero a b = refl
max_one (suc zero) (suc zero) a b = refl
max_one (suc zero) (suc (suc y)) a b = absurd (omega (arith, b))
max_one (suc (suc x)) y a b = absurd (omega (arith, a))

pub joined_bit : (a b k : ℕ) → nat_eq (bit_at (bit_or a b) k) 1
    ≡ (nat_eq (bit_at a k) 1 || nat_eq (bit_at b k) 1)
joined_bit a b k =
    ap (λ x. nat_eq x 1) (bit_at_or a b k)
    ∙ max_one (bit_at a k) (bit_at b k) (bit_at-lt a k) (bit_at-lt b k)
