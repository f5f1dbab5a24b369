-- A row lowered column by column.
use Rattle.std.specs.Prelude.{◌≡◌, ℕ, ◌+◌, ◌<◌, true, false}
use Rattle.std.proofs.Common.{◌∙◌}
use Rattle.ratio_core.specs.Rational.{Rational, ◌*ℚ◌, ◌-ℚ◌}
use Rattle.simplex_form.specs.Fit.{lowered_fits}
use Rattle.simplex_form.specs.Search.{all_below}
use Rattle.simplex_laws.specs.SearchLaws.{all_below_failed, all_below_more}
use Rattle.tableau_core.specs.BoardNumbers.{differences_fit}
use Rattle.sparse_board.specs.declared.sparse_row.SparseRow.{SparseRow}
use Rattle.sparse_board.specs.Numbers.{AppendsNumber, HoldsBelow, width_of}
use Rattle.sparse_board.proofs.HeldLemmas.{held_more}

pub record IsEachTo (w : ℕ) (row : ℕ → Rational) (by : Rational) (units : ℕ → Rational) (j : ℕ)
    (next : SparseRow) : Type 0 where
  pub width : width_of next ≡ w
  pub fit : all_below j (λ k. lowered_fits (row k) by (units k)) ≡ true
  pub held : HoldsBelow j (λ k. row k -ℚ by *ℚ units k) next

pub each_more : (w : ℕ) (row : ℕ → Rational) (by : Rational) (units : ℕ → Rational) (j : ℕ)
    (next new : SparseRow) (value : Rational) → IsEachTo w row by units j next
    → lowered_fits (row j) by (units j) ≡ true → value ≡ row j -ℚ by *ℚ units j
    → AppendsNumber j value next new → IsEachTo w row by units (j + 1) new
each_more w row by units j next new value h fits is adds = record {
  width = adds.width ∙ h.width;
  fit = all_below_more j (λ k. lowered_fits (row k) by (units k)) h.fit fits;
  held = held_more j (λ k. row k -ℚ by *ℚ units k) value next new h.held adds is;
}

pub each_refused : (w : ℕ) (row : ℕ → Rational) (by : Rational) (units : ℕ → Rational) (j : ℕ)
    → j < w → lowered_fits (row j) by (units j) ≡ false → differences_fit w row by units ≡ false
each_refused w row by units j b e =
    all_below_failed w j (λ k. lowered_fits (row k) by (units k)) b e
