-- Bits of a word: those that are left where the lowest are cleared one by one, and a word that is
-- shifted.
use Rattle.std.specs.Prelude.{◌≡◌, ℕ, ◌+◌, ◌-◌, ◌*◌, ◌/◌, ◌%◌, ◌^◌, ◌<◌, ◌≤◌, ◌⊎◌, Bool, IsTrue, true, false, bit_and, min, refl, suc}
use Rattle.std.proofs.Common.{inl, inr, sym, ◌∙◌, ap, arith, mod-lt, pow_pos, w64}
use Rattle.std.proofs.Math.Nat.{two-pow-succ}
use Rattle.std.specs.Int.{bit_at, bit_not, trailing_zeros}
use Rattle.std.proofs.lemmas.Bool.{cases_lt}
use Rattle.std.proofs.lemmas.Nat.{and_le_r, div-add-mod', shr-shr, shr_le}
use Rattle.std.proofs.lemmas.Nat.Bits.{bit_at-lt, bit_at-trailing_zeros, bit_at-zero, bit_at_and, bit_at_cat_high, bit_at_cat_low, bit_at_clear_other, bit_at_clear_same, bit_at_ones, bit_at_ones_above, same_from_bits_below}
use Rattle.whole_rows.specs.Bits.{IsBitCleared, IsLowestBit}

pub one_zero : (x : ℕ) → x ≡ 1 → x ≡ 0 → ⊥
one_zero x e f = omega (arith, e, f)

double_lem : (k : ℕ) → 2 ^ (k + 1) ≡ 2 ^ k + 2 ^ k
double_lem k = ap (λ m. 2 ^ m) (next_lem k) ∙ two-pow-succ k
  where
    next_lem : (k : ℕ) → k + 1 ≡ suc k
    next_lem k = omega arith

-- ---- the lowest bit

pub lowest_is : (word : ℕ) → word < 2 ^ 64 → 0 < word → IsLowestBit word (trailing_zeros w64 word)
lowest_is word small some =
    let found = bit_at-trailing_zeros w64 word some small in
    record { within = found.0; set = found.1; below = found.2 }

-- with a = w / 2 ^ (k + 1), where bit k is the lowest of w:
-- w = a * 2 ^ (k + 1) + 2 ^ k and w - 1 = a * 2 ^ (k + 1) + (2 ^ k - 1)
module _ (w k a : ℕ) (is : w ≡ a * 2 ^ (k + 1) + 2 ^ k) where
  less : w - 1 ≡ a * 2 ^ (k + 1) + (2 ^ k - 1)
  less = omega (arith, is, pow_pos k)

  -- above it both have the bits of a
  above_lem : (i : ℕ) → k < i → bit_at (w - 1) i ≡ bit_at w i
  above_lem i b =
      ap (λ n. bit_at n i) less
      ∙ bit_at_cat_high a (k + 1) (2 ^ k - 1) i (below_lem k) (omega (arith, b))
      ∙ sym (ap (λ n. bit_at n i) is
      ∙ bit_at_cat_high a (k + 1) (2 ^ k) i (own_lem k) (omega (arith, b)))
    where
      below_lem : (k : ℕ) → 2 ^ k - 1 < 2 ^ (k + 1)
      below_lem k = omega (arith, double_lem k, pow_pos k)

      own_lem : (k : ℕ) → 2 ^ k < 2 ^ (k + 1)
      own_lem k = omega (arith, double_lem k, pow_pos k)

  -- at it w - 1 has none
  here_lem : bit_at (w - 1) k ≡ 0
  here_lem =
      ap (λ n. bit_at n k) less ∙ bit_at_cat_low a (k + 1) (2 ^ k - 1) k (omega arith)
      ∙ bit_at_ones_above k k (omega arith)

  cleared_above : (i : ℕ) → k < i → bit_at (bit_and w (w - 1)) i ≡ bit_at w i
  cleared_above i b =
      bit_at_and w (w - 1) i ∙ ap (min (bit_at w i)) (above_lem i b) ∙ same_lem (bit_at w i)
    where
      same_lem : (x : ℕ) → min x x ≡ x
      same_lem x = omega arith

  cleared_below : ((i : ℕ) → i < k → bit_at w i ≡ 0) → (i : ℕ) → i < k
      → bit_at (bit_and w (w - 1)) i ≡ bit_at w i
  cleared_below zeros i b =
      bit_at_and w (w - 1) i ∙ left_lem _ _ (zeros i b)
    where
      left_lem : (x y : ℕ) → x ≡ 0 → min x y ≡ x
      left_lem x y e = omega (arith, e)

  cleared_here : bit_at (bit_and w (w - 1)) k ≡ 0
  cleared_here = bit_at_and w (w - 1) k ∙ right_lem _ _ here_lem
    where
      right_lem : (x y : ℕ) → y ≡ 0 → min x y ≡ 0
      right_lem x y e = omega (arith, e)

-- a number by its quotient and its rest
split_lem : (w p h r a q : ℕ) → w ≡ h * p + r → r ≡ 0 → h ≡ a * 2 + 1 → q ≡ p + p → w ≡ a * q + p
split_lem w p h r a q e f g d =
    e ∙ ap (λ x. h * p + x) f ∙ ap (λ x. x * p + 0) g ∙ times_lem a p
    ∙ ap (λ x. a * x + p) (sym d)
  where
    times_lem : (a p : ℕ) → (a * 2 + 1) * p + 0 ≡ a * (p + p) + p
    times_lem a p = omega arith

-- what a word with this lowest bit is
lowest_split : (w k : ℕ) → IsLowestBit w k → w ≡ (w / 2 ^ k / 2) * 2 ^ (k + 1) + 2 ^ k
lowest_split w k h =
    split_lem w (2 ^ k) (w / 2 ^ k) (w % 2 ^ k) (w / 2 ^ k / 2) (2 ^ (k + 1)) (parts_lem w (2 ^ k))
    none_lem (odd_lem (w / 2 ^ k) h.set) (double_lem k)
  where
    parts_lem : (w p : ℕ) → w ≡ w / p * p + w % p
    parts_lem w p = sym (div-add-mod' w p)

    odd_lem : (h : ℕ) → h % 2 ≡ 1 → h ≡ h / 2 * 2 + 1
    odd_lem h e = omega (arith, e)

    none_lem : w % 2 ^ k ≡ 0
    none_lem = same_from_bits_below k (w % 2 ^ k) 0 (mod-lt w (pow_pos k)) (pow_pos k) (λ i b.
        sym (bit_at_cat_low (w / 2 ^ k) k (w % 2 ^ k) i b)
        ∙ ap (λ n. bit_at n i) (sym (parts_lem w (2 ^ k)))
        ∙ h.below i b ∙ sym (bit_at-zero i))

pub lowest_cleared : (w k : ℕ) → IsLowestBit w k → IsBitCleared k w (bit_and w (w - 1))
lowest_cleared w k h =
    let is = lowest_split w k h in
    record {
      here = cleared_here w k (w / 2 ^ k / 2) is;
      others = λ i n. by_order i n (cases_lt i k);
    }
  where
    beyond_lem : (i k : ℕ) → k ≤ i → ¬ (i ≡ k) → k < i
    beyond_lem i k b n = omega (arith, b, n)

    by_order : (i : ℕ) → ¬ (i ≡ k) → (i < k) ⊎ (k ≤ i) → bit_at (bit_and w (w - 1)) i ≡ bit_at w i
    by_order i n (inl b) = cleared_below w k (w / 2 ^ k / 2) (lowest_split w k h) h.below i b
    by_order i n (inr b) =
        cleared_above w k (w / 2 ^ k / 2) (lowest_split w k h) i (beyond_lem i k b n)

pub lowest_smaller : (w : ℕ) → 0 < w → bit_and w (w - 1) < w
lowest_smaller w b = omega (arith, and_le_r w (w - 1), b)

-- a bit that stays set was set
pub bit_kept : (k old new i : ℕ) → IsBitCleared k old new → bit_at new i ≡ 1 → bit_at old i ≡ 1
bit_kept k old new i h e =
    sym (h.others i (λ f. one_zero _ e (ap (bit_at new) f ∙ h.here))) ∙ e

-- ---- what is left of a word

-- the bits below n are cleared, and each other is as it was
pub record IsRest (word rest n : ℕ) : Type 0 where
  pub below : (i : ℕ) → i < n → bit_at rest i ≡ 0
  pub same : (i : ℕ) → n ≤ i → bit_at rest i ≡ bit_at word i

pub rest_whole : (word : ℕ) → IsRest word word 0
rest_whole word = record {
  below = λ i b. absurd (omega (arith, b));
  same = λ i a. refl;
}

-- the lowest bit that is left is the word's next one
module _ (word rest n bit : ℕ) (h : IsRest word rest n) (is : IsLowestBit rest bit) where
  pub rest_order : n ≤ bit
  rest_order = by_order (cases_lt bit n)
    where
      by_order : (bit < n) ⊎ (n ≤ bit) → n ≤ bit
      by_order (inl b) = absurd (one_zero _ is.set (h.below bit b))
      by_order (inr b) = b

  pub rest_passed : (i : ℕ) → n ≤ i → i < bit → bit_at word i ≡ 0
  rest_passed i a b = sym (h.same i a) ∙ is.below i b

  pub rest_set : bit_at word bit ≡ 1
  rest_set = sym (h.same bit rest_order) ∙ is.set

  pub rest_next : (next : ℕ) → IsBitCleared bit rest next → IsRest word next (bit + 1)
  rest_next next cleared = record {
    below = λ i b. by_order i b (cases_lt i bit);
    same = λ i a. cleared.others i (apart_lem i bit a) ∙ h.same i (above_lem i bit n a rest_order);
  }
    where
      apart_lem : (i bit : ℕ) → bit + 1 ≤ i → i ≡ bit → ⊥
      apart_lem i bit a e = omega (arith, a, e)

      above_lem : (i bit n : ℕ) → bit + 1 ≤ i → n ≤ bit → n ≤ i
      above_lem i bit n a b = omega (arith, a, b)

      before_lem : (i bit : ℕ) → i < bit → i ≡ bit → ⊥
      before_lem i bit b e = omega (arith, b, e)

      end_lem : (i bit : ℕ) → i < bit + 1 → bit ≤ i → i ≡ bit
      end_lem i bit b c = omega (arith, b, c)

      by_order : (i : ℕ) → i < bit + 1 → (i < bit) ⊎ (bit ≤ i) → bit_at next i ≡ 0
      by_order i b (inl c) = cleared.others i (before_lem i bit c) ∙ is.below i c
      by_order i b (inr c) = ap (bit_at next) (end_lem i bit b c) ∙ cleared.here

-- where nothing is left the word has no further bit
pub rest_end : (word rest n : ℕ) → IsRest word rest n → rest ≡ 0 → (i : ℕ) → n ≤ i
    → bit_at word i ≡ 0
rest_end word rest n h e i a = sym (h.same i a) ∙ ap (λ x. bit_at x i) e ∙ bit_at-zero i

-- ---- a word that is shifted

shifted_bit : (word from k : ℕ) → from ≤ k → bit_at word k ≡ bit_at (word / 2 ^ from) (k - from)
shifted_bit word from k b =
    let e : k ≡ from + (k - from) = omega (arith, b) in
    ap (bit_at word) e ∙ sym (ap (λ x. x % 2) (shr-shr word from (k - from)))

-- where nothing is left no bit is set
pub none_set : (word from : ℕ) → word / 2 ^ from ≡ 0 → (k : ℕ) → from ≤ k → bit_at word k ≡ 0
none_set word from none k b =
    shifted_bit word from k b ∙ ap (λ x. bit_at x (k - from)) none ∙ bit_at-zero (k - from)

-- the lowest bit of what is left
module _ (word from : ℕ) (small : word < 2 ^ 64) (some : 0 < word / 2 ^ from) where
  left_small : word / 2 ^ from < 2 ^ 64
  left_small = omega (arith, small, shr_le word from)

  pub lowest_set : bit_at word (from + trailing_zeros w64 (word / 2 ^ from)) ≡ 1
  lowest_set =
      sym (ap (λ x. x % 2) (shr-shr word from (trailing_zeros w64 (word / 2 ^ from))))
      ∙ (bit_at-trailing_zeros w64 (word / 2 ^ from) some left_small).1

  pub lowest_passed : (k : ℕ) → from ≤ k → k < from + trailing_zeros w64 (word / 2 ^ from)
      → bit_at word k ≡ 0
  lowest_passed k f b =
      shifted_bit word from k f
      ∙ (bit_at-trailing_zeros w64 (word / 2 ^ from) some left_small).2 (k - from)
      (below_lem k from (trailing_zeros w64 (word / 2 ^ from)) f b)
    where
      below_lem : (k from n : ℕ) → from ≤ k → k < from + n → k - from < n
      below_lem k from n f b = omega (arith, f, b)

-- ---- a bit that is cleared where that is asked for

clears_here_is : (word m k : ℕ) → k < 64 → m ≡ 1
    → bit_at (bit_and word (bit_not w64 (m * 2 ^ k % 2 ^ 64))) k ≡ 0
clears_here_is word m k within e =
    ap (λ x. bit_at (bit_and word (bit_not w64 (x * 2 ^ k % 2 ^ 64))) k) e
    ∙ bit_at_clear_same w64 word k within

clears_none_is : (word m k : ℕ) → m ≡ 0 → (i : ℕ) → i < 64
    → bit_at (bit_and word (bit_not w64 (m * 2 ^ k % 2 ^ 64))) i ≡ bit_at word i
clears_none_is word m k e i b =
    ap (λ x. bit_at (bit_and word (bit_not w64 x)) i) (zero_lem m (2 ^ k) e)
    ∙ bit_at_and word (bit_not w64 0) i
    ∙ ap (min (bit_at word i)) (bit_at_ones 64 i b)
    ∙ least_lem (bit_at word i) (bit_at-lt word i)
  where
    zero_lem : (m p : ℕ) → m ≡ 0 → m * p % 2 ^ 64 ≡ 0
    zero_lem m p e = ap (λ x. x * p % 2 ^ 64) e ∙ none_lem p
      where
        none_lem : (p : ℕ) → 0 * p % 2 ^ 64 ≡ 0
        none_lem p = omega arith

    least_lem : (x : ℕ) → x < 2 → min x 1 ≡ x
    least_lem x h = omega (arith, h)

module _ (word m k : ℕ) (within : k < 64) (clears : Bool) (one : IsTrue clears → m ≡ 1)
    (none : clears ≡ false → m ≡ 0) where
  pub clears_here : IsTrue clears
      → bit_at (bit_and word (bit_not w64 (m * 2 ^ k % 2 ^ 64))) k ≡ 0
  clears_here t = clears_here_is word m k within (one t)

  pub clears_none : clears ≡ false
      → bit_at (bit_and word (bit_not w64 (m * 2 ^ k % 2 ^ 64))) k ≡ bit_at word k
  clears_none e = clears_none_is word m k (none e) k within

  pub clears_others : (i : ℕ) → i < 64 → ¬ (i ≡ k)
      → bit_at (bit_and word (bit_not w64 (m * 2 ^ k % 2 ^ 64))) i ≡ bit_at word i
  clears_others i b apart = by_test clears refl
    where
      by_test : (t : Bool) → clears ≡ t
          → bit_at (bit_and word (bit_not w64 (m * 2 ^ k % 2 ^ 64))) i ≡ bit_at word i
      by_test true e =
          ap (λ x. bit_at (bit_and word (bit_not w64 (x * 2 ^ k % 2 ^ 64))) i) (one e)
          ∙ bit_at_clear_other w64 word k within i b apart
      by_test false e = clears_none_is word m k (none e) i b
