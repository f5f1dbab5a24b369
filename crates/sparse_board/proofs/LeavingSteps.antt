-- Which row leaves: a row that isn't marked doesn't, and whole numbers tell what fractions do.
use Rattle.std.specs.Prelude.{◌≡◌, ℕ, zero, suc, ◌+◌, ◌-◌, ◌*◌, ◌/◌, ◌%◌, ◌<◌, ◌≤◌, Bool, ◌&&◌, ◌||◌, true, false, if◌then◌else◌, IfSome, IsTrue, List, length, min, nat_eq, Option, Some, None, slice_index_or, pos, ◌<ℤ◌, refl}
use Rattle.std.proofs.Common.{sym, ◌∙◌, ap, arith, subst, is_lt, Ordering}
use Rattle.std.specs.Ordering.{is_eq}
use Rattle.ratio_core.specs.Rational.{Rational, rational_cmp, zero_ℚ, ◌/ℚ◌, ◌‹ℚ◌}
use Rattle.ratio_core.specs.RationalLaws.{rational_eq-is_eq}
use Rattle.rational_laws.specs.Order.{not_‹ℚ_from_≤ℚ, ≤ℚ_from_≡}
use Rattle.rational_laws.specs.Tests.{lt_from_test}
use Rattle.rational_laws.specs.Over.{over-zero_ℚ, over-‹ℚ_out}
use Rattle.simplex_form.specs.Search.{best_below, better_of}
use Rattle.simplex_form.specs.Turns.{is_below}
use Rattle.simplex_laws.specs.BoundedSumLaws.{same_or_other}
use Rattle.tableau_core.specs.Leaving.{comes_before}
use Rattle.whole_rows.specs.declared.narrow_row.NarrowRow.{NarrowRow}
use Rattle.whole_rows.specs.Rows as whole
use Rattle.sparse_board.specs.declared.marks.Marks.{Marks}
use Rattle.sparse_board.specs.declared.mixed_row.MixedRow.{MixedRow}
use Rattle.sparse_board.specs.declared.row.Row.{Row}
use Rattle.sparse_board.specs.Mixed.{number_of, width_of}
use Rattle.std.specs.Int.{bit_at}
use Rattle.std.proofs.lemmas.Nat.Bits.{bit_at-lt}
use Rattle.sparse_board.specs.Leaving.{IsBestTo, IsSparseCandidate, leaves_before, may_leave}
use Rattle.sparse_board.specs.Marking.{AreNumbersMarked}
use Rattle.sparse_board.specs.Marks.{IsWord}
use Rattle.sparse_board.specs.Words.{Clears}
use Rattle.sparse_board.specs.Rows.{AreSparseRowsWide, number_in_row, numbers}
use Rattle.sparse_board.proofs.RowsSteps.{row_is, row_wide}
use Rattle.sparse_board.proofs.MixedSteps.{number_narrow}
use Rattle.sparse_board.proofs.WordSteps.{between_bits}

pub before_by : (p q : Rational) (w : Bool) (r : Ordering) → r ≡ rational_cmp p q
    → (is_lt r || is_eq r && w) ≡ comes_before p q w
before_by p q w r e =
    (λ i. is_lt (e i) || is_eq (e i) && w)
    ∙ (λ i. is_lt (rational_cmp p q) || sym (rational_eq-is_eq p q) i && w)

-- 0 isn't above 0
pub zero_below : (x : Rational) → x ≡ zero_ℚ → is_below zero_ℚ x ≡ false
zero_below x e = by_test (is_below zero_ℚ x) refl
  where
    by_test : (b : Bool) → is_below zero_ℚ x ≡ b → b ≡ false
    by_test true f =
        absurd (not_‹ℚ_from_≤ℚ x zero_ℚ (≤ℚ_from_≡ x zero_ℚ e) (lt_from_test zero_ℚ x f))
    by_test false f = refl

-- a number that doesn't pass the test is passed over
pub passed_better : (test : ℕ → Bool) (before : ℕ → ℕ → Bool) (best : Option ℕ) (i : ℕ)
    → test i ≡ false → better_of test before best i ≡ best
passed_better test before None i e = λ k. if e k then Some i else None
passed_better test before (Some best) i e = λ k. if e k && before i best then Some i else Some best

pub numerator_above : (row : NarrowRow) (q : ℕ) → zero_ℚ ‹ℚ whole.number_of row q
    → pos 0 <ℤ whole.numerator_of row q
numerator_above row q h =
    over-‹ℚ_out (pos 0) (whole.numerator_of row q) row.den row.above
    (subst (λ x. x ‹ℚ whole.number_of row q) (over-zero_ℚ row.den row.above) h)

-- a ratio of whole numbers is that of the row
pub whole_ratio : (row : MixedRow) (side q : ℕ) → row.is_wide ≡ false
    → whole.width_of row.narrow ≡ side
    → whole.number_of row.narrow (whole.width_of row.narrow) /ℚ whole.number_of row.narrow q
    ≡ number_of row side /ℚ number_of row q
whole_ratio row side q narrow width =
    ap (λ n. whole.number_of row.narrow n /ℚ whole.number_of row.narrow q) width
    ∙ (λ k. sym (number_narrow row narrow side) k /ℚ sym (number_narrow row narrow q) k)

-- ---- a row that is read

pub item_number : (rows : List Row) (i : ℕ) (d item : Row) → i < length rows
    → item ≡ slice_index_or rows i d → (j : ℕ) → number_of item.now j ≡ number_in_row rows i j
item_number rows i d item b is j =
    ap (λ (x : Row). number_of x.now j) is ∙ sym (ap (λ o. numbers o j) (row_is rows i d b))

pub item_width : (w : ℕ) (rows : List Row) (i : ℕ) (d item : Row) → AreSparseRowsWide w rows
    → i < length rows → item ≡ slice_index_or rows i d → width_of item.now ≡ w
item_width w rows i d item wide b is =
    ap (λ (x : Row). width_of x.now) is ∙ row_wide w rows i d wide b

pub may_leave_is : (rows : List Row) (q i : ℕ) → i < length rows → IsTrue (may_leave rows q i)
    → IsSparseCandidate rows q i
may_leave_is rows q i b t =
    record { within = b; above = lt_from_test zero_ℚ (number_in_row rows i q) t }

-- ---- the best so far, and a row that passes the test

pub better_some : (test : ℕ → Bool) (before : ℕ → ℕ → Bool) (best : Option ℕ) (i k : ℕ) (t : Bool)
    → best ≡ Some k → test i ≡ true → t ≡ before i k
    → better_of test before best i ≡ (if t then Some i else best)
better_some test before best i k t e passes is =
    ap (λ o. better_of test before o i) e
    ∙ (λ z. if passes z && sym is z then Some i else Some k)
    ∙ (λ z. if t then Some i else sym e z)

pub better_none : (test : ℕ → Bool) (before : ℕ → ℕ → Bool) (best : Option ℕ) (i : ℕ)
    → best ≡ None → test i ≡ true → better_of test before best i ≡ Some i
better_none test before best i e passes =
    ap (λ o. better_of test before o i) e ∙ (λ z. if passes z then Some i else None)

-- ---- the best of the rows below i

best_past : (test : ℕ → Bool) (before : ℕ → ℕ → Bool) (i n : ℕ) → i ≤ n
    → ((k : ℕ) → i ≤ k → k < n → test k ≡ false)
    → best_below n test before ≡ best_below i test before
best_past test before i zero b h =
    let e : i ≡ 0 = omega (arith, b) in sym (ap (λ k. best_below k test before) e)
best_past test before i (suc n) b h =
    same_or_other (best_below (suc n) test before ≡ best_below i test before) i (suc n)
    (λ e. ap (λ k. best_below k test before) (sym e))
    (λ m. passed_better test before (best_below n test before) n
    (h n (omega (arith, b, m)) (omega arith))
    ∙ best_past test before i n (omega (arith, b, m)) (λ k f t. h k f (omega (arith, t))))

best_more : (n : ℕ) (test : ℕ → Bool) (before : ℕ → ℕ → Bool)
    → better_of test before (best_below n test before) n ≡ best_below (n + 1) test before
best_more n test before = ap (λ k. best_below k test before) (more_lem n)
  where
    more_lem : (n : ℕ) → suc n ≡ n + 1
    more_lem n = omega arith

module _ (rows : List Row) (basis : List ℕ) (side q : ℕ) where
  pub best_none : IsBestTo rows basis side q 0 None
  best_none = record { within = omega arith; value = refl; candidate = tt }

  -- the better of the best so far and row i
  pub best_with : (i : ℕ) (best new : Option ℕ) (t : Bool) → IsBestTo rows basis side q i best
      → i < length rows
      → better_of (may_leave rows q) (leaves_before rows basis side q) best i
      ≡ (if t then Some i else best) → (IsTrue t → IsSparseCandidate rows q i)
      → new ≡ (if t then Some i else best) → IsBestTo rows basis side q (i + 1) new
  best_with i best new t h b better candidate is = record {
    within = omega (arith, b);
    value = is ∙ sym better
        ∙ ap (λ o. better_of (may_leave rows q) (leaves_before rows basis side q) o i) h.value
        ∙ best_more i (may_leave rows q) (leaves_before rows basis side q);
    candidate = subst (λ o. IfSome o (λ k. IsSparseCandidate rows q k)) (sym is) (by_test t candidate);
  }
    where
      by_test : (t : Bool) → (IsTrue t → IsSparseCandidate rows q i)
          → IfSome (if t then Some i else best) (λ k. IsSparseCandidate rows q k)
      by_test true c = c refl
      by_test false c = h.candidate

  -- rows that can't leave are passed over
  pub best_skip : (i to : ℕ) (best : Option ℕ) → IsBestTo rows basis side q i best → i ≤ to
      → to ≤ length rows → ((k : ℕ) → i ≤ k → k < to → may_leave rows q k ≡ false)
      → IsBestTo rows basis side q to best
  best_skip i to best h past within none = record {
    within = within;
    value = h.value
        ∙ sym (best_past (may_leave rows q) (leaves_before rows basis side q) i to past none);
    candidate = h.candidate;
  }

  -- the same of those between two bits of a word that aren't set
  pub best_bits : (start word bit next end : ℕ) (best : Option ℕ)
      → IsBestTo rows basis side q (start + min bit end) best → bit ≤ next → start ≤ length rows
      → end ≡ min 64 (length rows - start)
      → ((k : ℕ) → bit ≤ k → k < next → bit_at word k ≡ 0)
      → ((k : ℕ) → k < 64 → start + k < length rows → bit_at word k ≡ 0
      → may_leave rows q (start + k) ≡ false)
      → IsBestTo rows basis side q (start + min next end) best
  best_bits start word bit next end best h past within is passed others =
      best_skip (start + min bit end) (start + min next end) best h
      (order_lem start bit next end past) (within_lem start next end (length rows) within is)
      (between_bits (λ k. may_leave rows q k ≡ false) (length rows) start word bit next end within is
      passed others)
    where
      order_lem : (s b n e : ℕ) → b ≤ n → s + min b e ≤ s + min n e
      order_lem s b n e h = omega (arith, h)

      within_lem : (s n e l : ℕ) → s ≤ l → e ≡ min 64 (l - s) → s + min n e ≤ l
      within_lem s n e l h i = omega (arith, h, i)

-- the rows of a word's cleared bits can't leave: they aren't marked, or have no positive entry
pub cleared_none : (rows : List Row) (marks : Marks) (w q k word kept : ℕ)
    → AreNumbersMarked w marks rows
    → q < w → marks.rows ≡ length rows → IsWord q k word marks
    → Clears (λ i. may_leave rows q i ≡ false) (length rows) (k * 64) word kept
    → (b : ℕ) → b < 64 → k * 64 + b < length rows → bit_at kept b ≡ 0
    → may_leave rows q (k * 64 + b) ≡ false
cleared_none rows marks w q k word kept marked column long read clears b small within none =
    by_bit (bit_at word b) refl (bit_at-lt word b)
  where
    row_lem : (k b : ℕ) → b < 64 → (k * 64 + b) / 64 ≡ k
    row_lem k b h = omega (arith, h)

    rest_lem : (k b : ℕ) → b < 64 → (k * 64 + b) % 64 ≡ b
    rest_lem k b h = omega (arith, h)

    by_bit : (x : ℕ) → bit_at word b ≡ x → x < 2 → may_leave rows q (k * 64 + b) ≡ false
    by_bit zero e h =
        zero_below (number_in_row rows (k * 64 + b) q)
        (marked (k * 64 + b) within q column
        (read (k * 64 + b) (subst (λ n. k * 64 + b < n) (sym long) within) (row_lem k b small)
        ∙ ap (λ n. nat_eq (bit_at word n) 1) (rest_lem k b small) ∙ ap (λ x. nat_eq x 1) e))
    by_bit (suc zero) e h = clears b small within e none
    by_bit (suc (suc x)) e h = absurd (omega (arith, h))
