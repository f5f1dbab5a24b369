use Rattle.std.proofs.Common.{◌≡◌, ◌≤◌, ◌<◌, ℕ, Bool, Some, ap, arith, eqb-true, false, length, nat_eq, not, refl, slice_index, subst, sym, ◌∙◌}
use Rattle.std.proofs.lemmas.Bool.{eqb-false}
use Rattle.rational_laws.specs.Tests.{nonzero_test, zero_test}
use Rattle.ratio_core.specs.Rational.{rational_eq, zero_ℚ}
use Rattle.sparse_board.specs.declared.sparse_row.SparseRow.{SparseRow}
use Rattle.sparse_board.specs.Numbers.{number_of, row_columns, row_values}
use Rattle.sparse_board.proofs.NumberLemmas.{number_at_place}
use Rattle.sparse_board.proofs.RowSteps.{column_is, columns_long}
use Rattle.sparse_board.proofs.ScanSteps.{found_at, none_to}
use Rattle.sparse_board.proofs.scan.nonzero_entry.Goals as goal

abbrev test : SparseRow → ℕ → Bool
test row j = not (rational_eq (number_of row j) zero_ℚ)

zeros : (row : SparseRow) (j : ℕ) → number_of row j ≡ zero_ℚ → test row j ≡ false
zeros row j e = zero_test (number_of row j) e

some_column : (row : SparseRow) (b : Bool) → b ≡ nat_eq row.entries.len 0 → b ≡ false
    → 0 < length (row_columns row)
some_column row b e f =
    above_lem (length (row_columns row)) (λ z. eqb-false row.entries.len 0 (sym e ∙ f)
    (omega (arith, z, row.entries.ok.0, columns_long row)))
  where
    above_lem : (n : ℕ) → ¬ (n ≡ 0) → 0 < n
    above_lem n h = omega (arith, h)

first_other : (row : SparseRow) → 0 < length (row_columns row)
    → ¬ (number_of row (slice_index (row_columns row) 0) ≡ zero_ℚ)
first_other row b e =
    row.sparse.others 0 b (sym (number_at_place (row_columns row) (row_values row) row.sparse 0
    (slice_index (row_columns row) 0) b refl) ∙ e)

pub returns-then-is_empty-clause-value : goal.returns-then-is_empty-clause-value
returns-then-is_empty-clause-value c =
    let row = c.args.row.now in
    let none = eqb-true row.entries.len 0 (sym c.is_empty.ensures ∙ c.if-is_empty.true) in
    sym (none_to row (test row) (zeros row) 0 (omega arith) refl c.args.count (omega arith)
    (λ b. absurd (omega (arith, b, none, row.entries.ok.0, columns_long row))))

pub returns-then-column-count-clause-value : goal.returns-then-column-count-clause-value
returns-then-column-count-clause-value c =
    let row = c.args.row.now in
    let b = some_column row c.is_empty.result c.is_empty.ensures c.if-is_empty.false in
    let is = column_is row 0 c.index.result.now b c.index.ensures in
    ap Some is
    ∙ sym (found_at row (test row) (zeros row) 0 (omega arith) refl b c.args.count
    (subst (λ x. x < c.args.count) is c.if-column-count.true)
    (nonzero_test (number_of row (slice_index (row_columns row) 0)) (first_other row b)))

pub returns-then-column-count-clause-within : goal.returns-then-column-count-clause-within
returns-then-column-count-clause-within c =
    let row = c.args.row.now in
    let b = some_column row c.is_empty.result c.is_empty.ensures c.if-is_empty.false in
    let is = column_is row 0 c.index.result.now b c.index.ensures in
    (c.if-column-count.true, λ e. first_other row b (subst (λ x. number_of row x ≡ zero_ℚ) is e))

pub returns-else-column-count-clause-value : goal.returns-else-column-count-clause-value
returns-else-column-count-clause-value c =
    let row = c.args.row.now in
    let b = some_column row c.is_empty.result c.is_empty.ensures c.if-is_empty.false in
    let is = column_is row 0 c.index.result.now b c.index.ensures in
    sym (none_to row (test row) (zeros row) 0 (omega arith) refl c.args.count (omega arith)
    (λ _. subst (λ x. c.args.count ≤ x) is c.if-column-count.false))
