use Rattle.std.proofs.Common.{◌≡◌, ◌+◌, ◌≤◌, ◌<◌, ℕ, Bool, Some, ap, arith, false, slice_index, subst, sym, ◌∙◌}
use Rattle.ratio_core.specs.Rational.{zero_ℚ}
use Rattle.simplex_form.specs.Turns.{is_below}
use Rattle.sparse_board.specs.declared.sparse_row.SparseRow.{SparseRow}
use Rattle.sparse_board.specs.Numbers.{number_of, row_columns}
use Rattle.sparse_board.proofs.LoweringSteps.{past_more}
use Rattle.sparse_board.proofs.RowSteps.{column_is, columns_long, row_place, value_is}
use Rattle.sparse_board.proofs.ScanSteps.{found_at, none_more, none_to, value_at, zero_not_below}
use Rattle.sparse_board.proofs.scan.negative_entry.Goals as goal

abbrev test : SparseRow → ℕ → Bool
test row j = is_below (number_of row j) zero_ℚ

zeros : (row : SparseRow) (j : ℕ) → number_of row j ≡ zero_ℚ → test row j ≡ false
zeros row j e = zero_not_below (number_of row j) e

pub returns-then-column-count-clause-value : goal.returns-then-column-count-clause-value
returns-then-column-count-clause-value c =
    let row = c.args.row.now in
    let b = row_place row c.len-k-end.result c.loop-k.k c.len-k-end.ensures c.loop-k-test.true in
    let is = column_is row c.loop-k.k c.index.result.now b c.index.ensures in
    sym (none_to row (test row) (zeros row) c.loop-k.k (omega (arith, b)) c.loop-k.invariant.none
    c.args.count c.loop-k.invariant.few (λ _. subst (λ x. c.args.count ≤ x) is
    c.if-column-count.true))

pub returns-then-is_negative-clause-value : goal.returns-then-is_negative-clause-value
returns-then-is_negative-clause-value c =
    let row = c.args.row.now in
    let b = row_place row c.len-k-end.result c.loop-k.k c.len-k-end.ensures c.loop-k-test.true in
    let is = column_is row c.loop-k.k c.index.result.now b c.index.ensures in
    ap Some is
    ∙ sym (found_at row (test row) (zeros row) c.loop-k.k (omega (arith, b)) c.loop-k.invariant.none
    b c.args.count (subst (λ x. x < c.args.count) is c.if-column-count.false)
    (ap (λ x. is_below x zero_ℚ) (sym (value_at row c.loop-k.k c.index-in-loop-k.result.now.value b
    (value_is row c.loop-k.k c.index-in-loop-k.result.now b c.index-in-loop-k.ensures)))
    ∙ sym c.is_negative.ensures ∙ c.if-is_negative.true))

pub loop-k-preserved : goal.loop-k-preserved
loop-k-preserved c =
    let row = c.args.row.now in
    let b = row_place row c.len-k-end.result c.loop-k.k c.len-k-end.ensures c.loop-k-test.true in
    let is = column_is row c.loop-k.k c.index.result.now b c.index.ensures in
    record {
      none = none_more row (test row) (zeros row) c.loop-k.k (omega (arith, b))
          c.loop-k.invariant.none b (ap (λ x. is_below x zero_ℚ)
          (sym (value_at row c.loop-k.k c.index-in-loop-k.result.now.value b
          (value_is row c.loop-k.k c.index-in-loop-k.result.now b c.index-in-loop-k.ensures)))
          ∙ sym c.is_negative.ensures ∙ c.if-is_negative.false);
      few = subst (λ n. n ≤ c.args.count) (sym (past_more (row_columns row) c.loop-k.k))
          (next_lem (slice_index (row_columns row) c.loop-k.k) c.args.count
          (subst (λ x. x < c.args.count) is c.if-column-count.false));
    }
  where
    next_lem : (x n : ℕ) → x < n → x + 1 ≤ n
    next_lem x n h = omega (arith, h)

pub returns-clause-value : goal.returns-clause-value
returns-clause-value c =
    let row = c.args.row.now in
    sym (none_to row (test row) (zeros row) c.loop-k.k (omega (
      arith,
      c.loop-k.auto.k-end,
      c.len-k-end.ensures,
      row.entries.ok.0,
      columns_long row,
    )) c.loop-k.invariant.none
    c.args.count c.loop-k.invariant.few (λ b. absurd (omega (
      arith,
      b,
      c.loop-k-test.false,
      c.len-k-end.ensures,
      row.entries.ok.0,
      columns_long row,
    ))))
