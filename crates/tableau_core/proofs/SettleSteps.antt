-- A pivot put in place: the other rows first, and then the pivot's.
use Rattle.std.specs.Prelude.{◌≡◌, ℕ, ◌+◌, ◌<◌, List, length, slice_index_or, slice_set, IsTrue}
use Rattle.std.proofs.Common.{sym, ◌∙◌, ap, subst}
use Rattle.std.proofs.lemmas.List.{length-set}
use Rattle.ratio_core.specs.Rational.{Rational}
use Rattle.tableau_core.specs.declared.cost_rows.CostRows.{CostRows}
use Rattle.tableau_core.specs.declared.kept.Row.{Row}
use Rattle.tableau_core.specs.KeptLaws.{settled_by}
use Rattle.tableau_core.specs.BoardNumbers.{AreLess, IsSettled}
use Rattle.tableau_core.specs.Row.{IsLowered, cell}
use Rattle.tableau_core.specs.Rows.{AreLowered, AreWide, now_at, numbers, numbers_in}
use Rattle.tableau_core.specs.Pivoting.{IsReady}
use Rattle.tableau_core.specs.ItemLaws.{each_written, read_at, written_at, written_off}

module _ (before middle : List Row) (r q : ℕ) (step : List Rational) (new : Row)
    (count : length middle ≡ length before) (row : r < length before)
    (is : new.now.items ≡ step) where
  new_row : now_at (slice_set middle r new) r ≡ step
  new_row = ap numbers (written_at middle r new (subst (λ n. r < n) (sym count) row)) ∙ is

  -- the cost rows have w numbers
  pub settled-all : (w : ℕ) (costs : CostRows)
      (first_after second_after : List Rational) → AreWide (w + 1) before
      → length costs.first.now.items ≡ w → length costs.second.now.items ≡ w
      → IsReady before r q costs step → AreLowered r q step before middle
      → (IsTrue costs.in_first
      → IsLowered (cell costs.first.now.items q) step costs.first.now.items first_after)
      → IsLowered (cell costs.second.now.items q) step costs.second.now.items second_after
      → IsSettled w r q costs.in_first
      (numbers_in before costs.first.now.items costs.second.now.items)
      (numbers_in (slice_set middle r new) first_after second_after)
  settled-all w costs first_after second_after wide f s ready low first_low second_low =
      settled_by w r q costs.in_first
      (numbers_in before costs.first.now.items costs.second.now.items)
      (numbers_in (slice_set middle r new) first_after second_after) (cell step)
      (λ j b. ap (λ l. cell l j) new_row)
      (λ j b. ready.divided.cells j (subst (λ n. j < n) (sym (wide r row)) b))
      (λ i b m. less (w + 1) (now_at before i) (now_at (slice_set middle r new) i) (wide i b)
      (subst (λ o. IsLowered (cell (now_at before i) q) step (now_at before i) (numbers o))
      (sym (written_off middle r i new m)) (low i b m)))
      (λ u. less w costs.first.now.items first_after f (first_low u))
      (less w costs.second.now.items second_after s second_low)
    where
      less : (n : ℕ) (old next : List Rational) → length old ≡ n
          → IsLowered (cell old q) step old next → AreLess n q (cell step) (cell old) (cell next)
      less n old next e l j b = l.cells j (subst (λ k. j < k) (sym e) b)

  pub settled-wide : (n : ℕ) → length step ≡ n → AreWide n before
      → AreLowered r q step before middle → AreWide n (slice_set middle r new)
  settled-wide n long wide low =
      each_written (λ i o. i < length (slice_set middle r new) → length (numbers o) ≡ n) middle r
      new (subst (λ k. r < k) (sym count) row)
      (λ _. ap length is ∙ long) (λ i m b. (low i (within i b) m).long ∙ wide i (within i b))
    where
      within : (i : ℕ) → i < length (slice_set middle r new) → i < length before
      within i b = subst (λ k. i < k) (length-set middle r new ∙ count) b

-- the pivot's old row makes room for the next
pub room-long : (before middle : List Row) (r : ℕ) (d : Row) (step : List Rational) (n : ℕ)
    → length middle ≡ length before → r < length before
    → step ≡ (slice_index_or middle r d).now.items → now_at middle r ≡ now_at before r
    → AreWide n before → length step ≡ n
room-long before middle r d step n count row is stays wide =
    ap length (is ∙ sym (ap numbers (read_at middle r d (subst (λ k. r < k) (sym count) row)))
    ∙ stays) ∙ wide r row
