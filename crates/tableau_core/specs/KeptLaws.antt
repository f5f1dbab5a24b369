-- What is kept as numbers by row and column, and read as the board's contents: at the start, and
-- before and after a pivot.
use Rattle.std.specs.Prelude.{◌≡◌, ℕ, ◌+◌, ◌<◌, Bool, true, false, ◌&&◌, ◌||◌, not, nat_eq, List, length, Result, Ok, Err, IsErr, MatchResult, IsTrue, slice_set, refl}
use Rattle.std.specs.List.{range_with_len}
use Rattle.std.proofs.Common.{sym, ◌∙◌, ap, ap₂, arith, subst, true≢false}
use Rattle.ratio_core.specs.Rational.{Rational, fits, ◌*ℚ◌, ◌-ℚ◌, ◌/ℚ◌}
use Rattle.simplex_form.specs.Basis.{pivoted, start}
use Rattle.simplex_form.specs.Board.{entry, price}
use Rattle.simplex_form.specs.Fit.{divided_row_fits, lowered_fits, lowered_prices_fit, lowered_row_fits, pivot_fits}
use Rattle.simplex_form.specs.Form.{Form, first_cost, second_cost}
use Rattle.simplex_form.specs.Readings.{Agrees, Readings, lowered_price, pivoted_readings, readings}
use Rattle.simplex_form.specs.Search.{all_below}
use Rattle.simplex_laws.specs.AgreementLaws.{agrees_back, agrees_chain, pivot_fits_same, pivoted_agrees}
use Rattle.simplex_laws.specs.PivotLaws.{pivoted_each}
use Rattle.simplex_laws.specs.SearchLaws.{all_below_last, all_below_same}
use Rattle.simplex_laws.specs.TrailLaws.{right_side-start, second_price-start}
use Rattle.tableau_core.specs.BoardContents.{BoardContents, IsBoardOf, IsPivoted, readings_of, width}
use Rattle.tableau_core.specs.BoardNumbers.{AreLess, BoardNumbers, IsSettled, costs_fit, differences_fit, kept_readings, numbers_fit, others_fit, quotient_at, quotients_fit}

-- ---- the tests of a pivot

-- in the order of the code, and in that of the definition
regrouped : (a b c d : Bool) → (a && (b && (c && d))) ≡ (a && b && c && d)
regrouped true true c d = refl
regrouped true false c d = refl
regrouped false b c d = refl

module _ (c : ℕ) (basis : List ℕ) (K : BoardNumbers) (r q : ℕ) (in_first : Bool) where
  abbrev R : Readings
  R = kept_readings c basis K

  divided_fit : quotients_fit (c + K.rows + 1) (K.number r) (K.number r q)
      ≡ divided_row_fits R r q
  divided_fit =
      all_below_last (c + K.rows + 1) (c + K.rows)
      (λ j. fits (K.number r j /ℚ K.number r q)) refl

  rows_fit : others_fit (c + K.rows) r q K (quotient_at K.number r q)
      ≡ all_below R.rows (λ i. nat_eq i r || lowered_row_fits R r q i)
  rows_fit =
      all_below_same K.rows
      (λ i. nat_eq i r
      || differences_fit (c + K.rows + 1) (K.number i) (K.number i q) (quotient_at K.number r q))
      (λ i. nat_eq i r || lowered_row_fits R r q i)
      (λ i b. ap (λ x. nat_eq i r || x)
      (all_below_last (c + K.rows + 1) (c + K.rows)
      (λ j. lowered_fits (K.number i j) (K.number i q) (K.number r j /ℚ K.number r q)) refl))

  kept_fits : numbers_fit (c + K.rows) r q in_first K ≡ pivot_fits in_first R r q
  kept_fits =
      (λ z. divided_fit z && (rows_fit z
      && costs_fit (c + K.rows) q in_first K.first K.second (quotient_at K.number r q)))
      ∙ regrouped (divided_row_fits R r q)
      (all_below R.rows (λ i. nat_eq i r || lowered_row_fits R r q i))
      (not in_first || lowered_prices_fit R R.first_price r q)
      (lowered_prices_fit R R.second_price r q)

pub refused : {T E : Type 0} (r : Result T E) (P Q : Type 0) → IsErr r → Q
    → MatchResult r (λ _. P) (λ _. Q)
refused (Ok x) P Q e h = absurd (true≢false (sym e))
refused (Err x) P Q e h = h

-- ---- a pivot put in place

-- what was worked out with the step is so with the new row r, which is the step
pub settled_by : (w r q : ℕ) (in_first : Bool) (K L : BoardNumbers) (step : ℕ → Rational)
    → ((j : ℕ) → j < w + 1 → L.number r j ≡ step j)
    → ((j : ℕ) → j < w + 1 → step j ≡ quotient_at K.number r q j)
    → ((i : ℕ) → i < K.rows → ¬ (i ≡ r) → AreLess (w + 1) q step (K.number i) (L.number i))
    → (IsTrue in_first → AreLess w q step K.first L.first) → AreLess w q step K.second L.second
    → IsSettled w r q in_first K L
settled_by w r q in_first K L step is divided others first second = record {
  divided = λ j b. is j b ∙ divided j b;
  others = λ i b n. by_row (w + 1) (λ j c. c) (K.number i) (L.number i) (others i b n);
  first_lowered = λ u. by_row w (λ j c. omega (arith, c)) K.first L.first (first u);
  second_lowered = by_row w (λ j c. omega (arith, c)) K.second L.second second;
}
  where
    by_row : (n : ℕ) → ((j : ℕ) → j < n → j < w + 1) → (before after : ℕ → Rational)
        → AreLess n q step before after → AreLess n q (L.number r) before after
    by_row n few before after l j b =
        l j b ∙ ap (λ x. before j -ℚ before q *ℚ x) (sym (is j (few j b)))

module _ (c : ℕ) (basis : List ℕ) (K L : BoardNumbers) (r q : ℕ) (in_first : Bool)
    (s : IsSettled (c + K.rows) r q in_first K L) where
  new_numbers : (j : ℕ) → j < c + K.rows + 1 → (i : ℕ) → i < K.rows
      → L.number i j ≡ pivoted r (λ k. K.number k q) (λ k. K.number k j) i
  new_numbers j b i d =
      pivoted_each (λ k x. L.number k j ≡ x) r (λ k. K.number k q) (λ k. K.number k j) i
      (s.divided j b)
      (λ n. s.others i d n j b ∙ ap (λ x. K.number i j -ℚ K.number i q *ℚ x) (s.divided j b))

  new_prices : (prices next : ℕ → Rational) → AreLess (c + K.rows) q (L.number r) prices next
      → (j : ℕ) → j < c + K.rows → next j ≡ lowered_price (kept_readings c basis K) prices r q j
  new_prices prices next l j b =
      l j b ∙ ap (λ x. prices j -ℚ prices q *ℚ x) (s.divided j (omega (arith, b)))

  settled_agrees : (d : ℕ) (after : List ℕ) → d ≡ c → after ≡ slice_set basis r q
      → L.rows ≡ K.rows
      → Agrees in_first (kept_readings d after L) (pivoted_readings r q (kept_readings c basis K))
  settled_agrees d after reals columns count = record {
    rows = count;
    reals = reals;
    basis = columns;
    entries = λ i j b m. new_numbers j (omega (arith, m)) i b;
    rights = λ i b.
        ap₂ (λ d n. L.number i (d + n)) reals count ∙ new_numbers (c + K.rows) (omega arith) i b;
    first = λ u. new_prices K.first L.first (s.first_lowered u);
    second = new_prices K.second L.second s.second_lowered;
  }

-- ---- the board's contents

-- K is what is kept, v its value, and t the board's contents
module _ (c : ℕ) (basis : List ℕ) (K : BoardNumbers) (v t : BoardContents) (view : v ≡ t)
    (value : Agrees v.in_first (readings_of v) (kept_readings c basis K)) where
  -- a row and a column of the contents are within what is kept
  pub row_kept : (r : ℕ) → r < length t.rows → r < K.rows
  row_kept r row =
      subst (λ n. r < n) value.rows (subst (λ t. r < length t.rows) (sym view) row)

  pub column_kept : (q : ℕ) → q < width t → q < c + K.rows
  column_kept q column =
      subst (λ n. q < n) (ap₂ ◌+◌ value.reals value.rows)
      (subst (λ t. q < width t) (sym view) column)

  module _ (r q : ℕ) (row : r < length t.rows) (column : q < width t) where
    -- the tests that are made are those of the contents
    pub tests_read : numbers_fit (c + K.rows) r q v.in_first K
        ≡ pivot_fits t.in_first (readings_of t) r q
    tests_read =
        kept_fits c basis K r q v.in_first
        ∙ sym (pivot_fits_same v.in_first (readings_of v) (kept_readings c basis K) value r q
        (row_kept r row) (column_kept q column))
        ∙ ap (λ t. pivot_fits t.in_first (readings_of t) r q) view

    -- what is kept after the pivot is L, whose value is u
    pub pivoted_read : (d : ℕ) (after : List ℕ) (L : BoardNumbers) (u : BoardContents)
        → Agrees v.in_first (readings_of u) (kept_readings d after L) → d ≡ c
        → after ≡ slice_set basis r q → L.rows ≡ K.rows → u.in_first ≡ v.in_first
        → IsSettled (c + K.rows) r q v.in_first K L → IsPivoted r q t u
    pivoted_read d after L u back reals columns count in_first s =
        subst (λ t. IsPivoted r q t u) view
        (record {
          in_first = in_first;
          readings = agrees_chain v.in_first (readings_of u) (kept_readings d after L)
              (pivoted_readings r q (readings_of v)) back
              (agrees_chain v.in_first (kept_readings d after L)
              (pivoted_readings r q (kept_readings c basis K))
              (pivoted_readings r q (readings_of v))
              (settled_agrees c basis K L r q v.in_first s d after reals columns count)
              (agrees_back v.in_first (pivoted_readings r q (readings_of v))
              (pivoted_readings r q (kept_readings c basis K))
              (pivoted_agrees v.in_first (readings_of v) (kept_readings c basis K) value r q
              (row_kept r row) (column_kept q column))));
        })

-- ---- the start

-- the numbers of a form at its start, whose value is v
module _ (F : Form) (basis : List ℕ) (K : BoardNumbers) (v : BoardContents)
    (value : Agrees v.in_first (readings_of v) (kept_readings F.reals basis K)) where
  start_columns : basis ≡ range_with_len F.reals F.rows → basis ≡ (start F).basis
  unfolding start
  start_columns e = e

  pub started_read : K.rows ≡ F.rows → basis ≡ range_with_len F.reals F.rows
      → ((i j : ℕ) → i < F.rows → j < F.reals + F.rows → K.number i j ≡ entry F (start F) j i)
      → ((i : ℕ) → i < F.rows → K.number i (F.reals + F.rows) ≡ F.right i)
      → ((j : ℕ) → j < F.reals + F.rows → K.first j ≡ price F (start F) (first_cost F) j)
      → ((j : ℕ) → j < F.reals + F.rows → K.second j ≡ second_cost F j)
      → IsBoardOf F (start F) v
  started_read count columns entries rights first second =
      agrees_chain v.in_first (readings_of v) (kept_readings F.reals basis K)
      (readings F (start F)) value
      (record {
        rows = count;
        reals = refl;
        basis = start_columns columns;
        entries = entries;
        rights = λ i b.
            ap (λ n. K.number i (F.reals + n)) count ∙ rights i b ∙ sym (right_side-start F i b);
        first = λ _. first;
        second = λ j b. second j b ∙ sym (second_price-start F j);
      })
