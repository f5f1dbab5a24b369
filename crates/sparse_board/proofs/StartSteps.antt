-- The rows of a board at its start.
use Rattle.std.specs.Prelude.{◌≡◌, ℕ, ◌+◌, ◌-◌, ◌<◌, ◌≤◌, ◌^◌, List, [], ◌∷◌, drop, length, slice_index_or, ◌⊎◌, refl}
use Rattle.std.proofs.Common.{inl, inr, sym, ◌∙◌, ap, arith, subst}
use Rattle.std.proofs.Math.ListN.{drop_of_length-le}
use Rattle.std.proofs.lemmas.Bool.{cases_lt}
use Rattle.std.proofs.lemmas.List.{drop_more}
use Rattle.ratio_core.specs.Rational.{Rational, one_ℚ, zero_ℚ}
use Rattle.simplex_laws.specs.BoundedSumLaws.{same_or_other}
use Rattle.sparse_ratios.specs.Terms.{AreTerms, number_at}
use Rattle.simplex_form.specs.Basis.{start}
use Rattle.simplex_form.specs.Board.{entry}
use Rattle.simplex_form.specs.Form.{Form, second_cost}
use Rattle.simplex_laws.specs.TurnLaws.{second_cost_artificial, second_cost_real}
use Rattle.tableau_core.specs.Row.{cell}
use Rattle.tableau_core.specs.Start.{IsListOf, form_of}
use Rattle.tableau_core.specs.TermSteps.{AreTermsLeft, all_left, column_past, column_within, left_after, number_there, place_past, zero_at_end, zero_before}
use Rattle.tableau_core.specs.StartLaws.{real-entry, unit-entry, zero-entry}
use Rattle.sparse_board.specs.declared.board.Board.TheInside.{Inside}
use Rattle.sparse_board.specs.declared.sparse_row.SparseRow.{SparseRow}
use Rattle.sparse_board.specs.Mixed as mixed
use Rattle.sparse_board.specs.Numbers.{AppendsNumber, HoldsBelow, number_of, row_columns}
use Rattle.sparse_board.specs.Sparse.{AreColumnsBelow, columns_in}
use Rattle.sparse_board.specs.Rows.{AreSparseRowsWide}
use Rattle.sparse_board.specs.Marking.{AreNumbersMarked}
use Rattle.sparse_board.specs.Kept.{IsSparseBoardKept, columns_of}
use Rattle.sparse_board.proofs.HeldLemmas.{below_less, held_next, held_past, held_same}

-- a cost row has the numbers that it is made of
pub listed_are : (n : ℕ) (f : ℕ → Rational) (numbers given : List Rational) (row : ℕ → Rational)
    → numbers ≡ given → IsListOf n f given
    → ((j : ℕ) → j < length numbers → row j ≡ cell numbers j) → (j : ℕ) → j < n → row j ≡ f j
listed_are n f numbers given row e h held j b =
    held j (subst (λ k. j < k) (sym (ap length e ∙ h.long)) b) ∙ ap (λ l. cell l j) e
    ∙ h.cells j b

-- the second cost row has the costs, and zeros behind them
pub second_costs_are : (m : ℕ) (costs matrix right : List Rational) (numbers : ℕ → Rational)
    → ((j : ℕ) → j < length costs → numbers j ≡ cell costs j)
    → ((j : ℕ) → length costs ≤ j → j < length costs + m → numbers j ≡ zero_ℚ)
    → (j : ℕ) → j < length costs + m
    → numbers j ≡ second_cost (form_of m (length costs) matrix right costs) j
second_costs_are m costs matrix right numbers reals zeros j b = by_kind (cases_lt j (length costs))
  where
    F : Form
    F = form_of m (length costs) matrix right costs

    by_kind : (j < length costs) ⊎ (length costs ≤ j) → numbers j ≡ second_cost F j
    by_kind (inl d) = reals j d ∙ sym (second_cost_real F j d)
    by_kind (inr d) = zeros j d b ∙ sym (second_cost_artificial F j d)

module _ (F : Form) (i : ℕ) (row : i < F.rows) where
  abbrev entries : ℕ → Rational
  entries j = entry F (start F) j i

  -- an artificial column of another row
  other_zero : (j : ℕ) → F.reals ≤ j → ¬ (j ≡ F.reals + i) → entries j ≡ zero_ℚ
  other_zero j b n = sym (zero-entry F j i zero_ℚ row b (λ e. n (back_lem j F.reals i b e)) refl)
    where
      back_lem : (j c i : ℕ) → c ≤ j → j - c ≡ i → j ≡ c + i
      back_lem j c i b e = omega (arith, b, e)

  unit_is : (x : Rational) → x ≡ one_ℚ → x ≡ entries (F.reals + i)
  unit_is x e = unit-entry F (F.reals + i) i x row (omega arith) (less_lem F.reals i) e
    where
      less_lem : (c i : ℕ) → c + i - c ≡ i
      less_lem c i = omega arith

  -- the numbers of the real columns
  pub reals_held : (numbers : ℕ → Rational) → ((j : ℕ) → j < F.reals → numbers j ≡ F.matrix i j)
      → (held : SparseRow) → HoldsBelow F.reals numbers held → HoldsBelow F.reals entries held
  reals_held numbers same held h =
      held_same F.reals numbers entries held h
      (λ j b. real-entry F j i (numbers j) row b (same j b))

  pub unit_added : (x : Rational) (old new : SparseRow) → x ≡ one_ℚ → HoldsBelow F.reals entries old
      → AppendsNumber (F.reals + i) x old new → HoldsBelow (F.reals + F.rows) entries new
  unit_added x old new is held adds =
      held_past (F.reals + i + 1) (F.reals + F.rows) entries new
      (held_next F.reals (F.reals + i) entries x old new held (omega arith)
      (λ j b c. other_zero j b (λ e. omega (arith, c, e))) adds (unit_is x is))
      (omega (arith, row)) (λ j b c. other_zero j (omega (arith, b)) (λ e. omega (arith, b, e)))

  pub side_entries : (x : Rational) (old new : SparseRow)
      → HoldsBelow (F.reals + F.rows) entries old → AppendsNumber (F.reals + F.rows) x old new
      → (j : ℕ)
      → j < F.reals + F.rows → number_of new j ≡ entries j
  side_entries x old new held adds j b =
      adds.elsewhere j (λ e. omega (arith, b, e)) ∙ held.numbers j b

pub start-kept : (a : Inside) (m : ℕ) → length a.rows.items ≡ m → a.reals + m + 1 < 2 ^ 32
    → AreSparseRowsWide (a.reals + m + 1) a.rows.items
    → mixed.width_of a.costs.first.now ≡ a.reals + m
    → mixed.width_of a.costs.second.now ≡ a.reals + m → a.step.width ≡ a.reals + m + 1
    → length a.basis.items ≡ m → length a.changes.rows.items ≡ m
    → a.marks.columns ≡ a.reals + m + 1
    → a.marks.rows ≡ length a.rows.items → AreNumbersMarked (a.reals + m + 1) a.marks a.rows.items
    → IsSparseBoardKept a
start-kept a m count few wide first second step basis changes columns rows marked = record {
  few = subst (λ n. n + 1 < 2 ^ 32) same_width few;
  wide = λ i b. wide i b ∙ ap (λ n. n + 1) same_width;
  spare = step ∙ ap (λ n. n + 1) same_width;
  first = first ∙ same_width;
  second = second ∙ same_width;
  basis = basis ∙ sym count;
  changes = changes ∙ sym count;
  mark_columns = columns ∙ ap (λ n. n + 1) same_width;
  mark_rows = rows;
  marked = subst (λ n. AreNumbersMarked (n + 1) a.marks a.rows.items) same_width marked;
}
  where
    same_width : a.reals + m ≡ columns_of a
    same_width = ap (λ n. a.reals + n) (sym count)

-- what is put into zeros over 1
pub entries_are : (F : Form) (i : ℕ) → i < F.rows → (numbers : ℕ → Rational)
    → ((j : ℕ) → j < F.reals → numbers j ≡ F.matrix i j) → numbers (F.reals + i) ≡ one_ℚ
    → ((j : ℕ) → F.reals ≤ j → j < F.reals + F.rows → ¬ (j ≡ F.reals + i) → numbers j ≡ zero_ℚ)
    → (j : ℕ) → j < F.reals + F.rows → numbers j ≡ entry F (start F) j i
entries_are F i row numbers reals unit others j b = by_kind (cases_lt j F.reals)
  where
    by_kind : (j < F.reals) ⊎ (F.reals ≤ j) → numbers j ≡ entry F (start F) j i
    by_kind (inl d) = real-entry F j i (numbers j) row d (reals j d)
    by_kind (inr d) = same_or_other (numbers j ≡ entry F (start F) j i) j (F.reals + i)
        (λ e. subst (λ k. numbers k ≡ entry F (start F) k i) (sym e)
        (unit_is F i row (numbers (F.reals + i)) unit))
        (λ n. others j d b n ∙ sym (other_zero F i row j d n))

-- ---- a row's terms, one after the other

-- the columns before those that are left are held
pub record IsHeldTo (from c : ℕ) (all left : List (ℕ × Rational)) (row : SparseRow) : Type 0 where
  pub next : ℕ
  pub rest : AreTermsLeft from c next all left
  pub held : HoldsBelow next (λ j. number_at all (from + j)) row

module _ (from c : ℕ) (all : List (ℕ × Rational)) where
  pub held_start : (row : SparseRow) → AreTerms from (from + c) all → row.entries.items ≡ []
      → IsHeldTo from c all all row
  held_start row h e = record {
    next = 0;
    rest = all_left from c all h;
    held = record {
      below = λ k b. absurd (omega (arith, subst (λ es. k < length (columns_in es)) e b));
      numbers = λ j b. absurd (omega (arith, b));
    };
  }

  module _ (row : SparseRow) where
    pub held_at : (i : ℕ) (t : ℕ × Rational) → i < length all → t ≡ slice_index_or all i t
        → IsHeldTo from c all (drop i all) row → IsHeldTo from c all (t ∷ drop (i + 1) all) row
    held_at i t b e = subst (λ left. IsHeldTo from c all left row)
        (drop_more all i t b ∙ ap (λ x. x ∷ drop (i + 1) all) (sym e))

    pub held_end : (i : ℕ) → length all ≤ i → IsHeldTo from c all (drop i all) row
        → HoldsBelow c (λ j. number_at all (from + j)) row
    held_end i b d =
        let e : IsHeldTo from c all [] row =
        subst (λ left. IsHeldTo from c all left row) (drop_of_length-le all b) d in
        held_past e.next c (λ j. number_at all (from + j)) row e.held e.rest.low
        (zero_at_end from c e.next all e.rest)

    module _ (t : ℕ × Rational) (left : List (ℕ × Rational))
        (d : IsHeldTo from c all (t ∷ left) row) where
      pub held_within : t.0 - from < c
      held_within = column_within from c d.next all t left d.rest

      pub held_place : from ≤ t.0
      held_place = place_past from c d.next all t left d.rest

      pub held_above : AreColumnsBelow (t.0 - from) (row_columns row)
      held_above =
          below_less d.next (t.0 - from) (row_columns row) d.held.below
          (column_past from c d.next all t left d.rest)

      pub held_term : (new : SparseRow) → AppendsNumber (t.0 - from) t.1 row new → IsHeldTo from c all left new
      held_term new adds = record {
        next = t.0 - from + 1;
        rest = left_after from c d.next all t left d.rest;
        held = held_next d.next (t.0 - from) (λ j. number_at all (from + j)) t.1 row new d.held
            (column_past from c d.next all t left d.rest)
            (zero_before from c d.next all t left d.rest) adds
            (sym (number_there from c d.next all t left d.rest));
      }
