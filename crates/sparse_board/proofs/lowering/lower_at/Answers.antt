use Rattle.std.proofs.Common.{◌≡◌, ◌<◌, ◌≤◌, ℕ, ap, arith, length, slice_index, subst, sym, true≢false, ◌∙◌}
use Rattle.ratio_core.specs.Rational.{zero_ℚ, ◌*ℚ◌, ◌-ℚ◌}
use Rattle.simplex_form.specs.Fit.{lowered_fits}
use Rattle.tableau_core.specs.LoweringLaws.{is_ok-err}
use Rattle.sparse_board.specs.declared.sparse_row.SparseRow.{SparseRow}
use Rattle.sparse_board.specs.Numbers.{number_of, row_columns, row_values}
use Rattle.sparse_board.proofs.NumberLemmas.{number_between}
use Rattle.sparse_board.proofs.HeldLemmas.{copied_then}
use Rattle.sparse_board.proofs.LoweringSteps.{split_more, split_other}
use Rattle.sparse_board.proofs.RowSteps.{columns_long, number_found}
use Rattle.sparse_board.proofs.lowering.lower_at.Goals as goal

stands : (row : SparseRow) (place column : ℕ) → (place < length row.entries.items)
    × (slice_index (row_columns row) place ≡ column) → (place < length (row_columns row))
    × (slice_index (row_columns row) place ≡ column)
stands row place column h = (subst (λ n. place < n) (sym (columns_long row)) h.0, h.1)

pub returns-in_err-value-clause-fits : goal.returns-in_err-value-clause-fits
returns-in_err-value-clause-fits c =
    let at = stands c.args.row.now c.copy_below-end.result c.args.column
    (c.stands_at.ensures.0 c.if-stands_at.true) in
    is_ok-err c.from_residual.result c.from_residual.ensures.0 ∙ c.in_err-value.ensures.fits
    ∙ ap (λ x. lowered_fits x c.args.by.now c.args.unit.now)
    (number_found c.args.row.now c.copy_below-end.result c.args.column c.index.result.now at.0
    at.1 c.index.ensures)

pub returns-then-stands_at-clause-fits : goal.returns-then-stands_at-clause-fits
returns-then-stands_at-clause-fits c =
    let at = stands c.args.row.now c.copy_below-end.result c.args.column
    (c.stands_at.ensures.0 c.if-stands_at.true) in
    c.in_ok-value.ensures.fits
    ∙ ap (λ x. lowered_fits x c.args.by.now c.args.unit.now)
    (number_found c.args.row.now c.copy_below-end.result c.args.column c.index.result.now at.0
    at.1 c.index.ensures)

pub returns-then-stands_at-clause-copied : goal.returns-then-stands_at-clause-copied
returns-then-stands_at-clause-copied c =
    let at = stands c.args.row.now c.copy_below-end.result c.args.column
    (c.stands_at.ensures.0 c.if-stands_at.true) in
    copied_then c.args.row.now c.args.i c.args.column c.args.next.now c.copy_below-end.new.next
    c.push_any.new.self c.in_ok-value.value _ c.copy_below-end.ensures.copied c.push_any.ensures
    (c.in_ok-value.ensures.ok.0 ∙ ap (λ x. x -ℚ c.args.by.now *ℚ c.args.unit.now)
    (number_found c.args.row.now c.copy_below-end.result c.args.column c.index.result.now at.0
    at.1 c.index.ensures))

pub returns-then-stands_at-clause-split : goal.returns-then-stands_at-clause-split
returns-then-stands_at-clause-split c =
    let at = stands c.args.row.now c.copy_below-end.result c.args.column
    (c.stands_at.ensures.0 c.if-stands_at.true) in
    let row = c.args.row.now in
    split_more (row_columns row) (row_values row) row.sparse c.copy_below-end.result
    c.args.column at.0 at.1

-- ---- no number of the row is of the column

not_here : (c : goal.After-push_any-2) → c.copy_below-end.result
    < length (row_columns c.args.row.now)
    → ¬ (slice_index (row_columns c.args.row.now) c.copy_below-end.result ≡ c.args.column)
not_here c b e =
    true≢false (sym (c.stands_at.ensures.1 (
      subst (λ n. c.copy_below-end.result < n)
          (columns_long c.args.row.now) b,
      e,
    )) ∙ c.if-stands_at.false)

pub returns-in_err-value-2-clause-fits : goal.returns-in_err-value-2-clause-fits
returns-in_err-value-2-clause-fits c =
    let row = c.args.row.now in
    let split = c.copy_below-end.ensures.split in
    let z : number_of row c.args.column ≡ zero_ℚ = number_between (row_columns row)
    (row_values row) row.sparse c.args.column c.copy_below-end.result c.args.column split (omega
    arith) (λ b. after_lem c.args.column (slice_index (row_columns row) c.copy_below-end.result)
    (split.after c.copy_below-end.result (omega arith) b)
    (λ e. true≢false (sym (c.stands_at.ensures.1 (
      subst (λ n. c.copy_below-end.result < n)
          (columns_long c.args.row.now) b,
      e,
    )) ∙ c.if-stands_at.false))) in
    is_ok-err c.from_residual-in_err-value-2.result c.from_residual-in_err-value-2.ensures.0
    ∙ c.in_err-value-2.ensures.fits
    ∙ ap (λ x. lowered_fits x c.args.by.now c.args.unit.now) (c.zero.ensures ∙ sym z)
  where
    after_lem : (c x : ℕ) → c ≤ x → ¬ (x ≡ c) → c < x
    after_lem c x p q = omega (arith, p, q)

none_there : (c : goal.After-push_any-2) → number_of c.args.row.now c.args.column ≡ zero_ℚ
none_there c =
    let row = c.args.row.now in
    let split = c.copy_below-end.ensures.split in
    number_between (row_columns row) (row_values row) row.sparse c.args.column
    c.copy_below-end.result c.args.column split (omega arith)
    (λ b. after_lem c.args.column (slice_index (row_columns row) c.copy_below-end.result)
    (split.after c.copy_below-end.result (omega arith) b) (not_here c b))
  where
    after_lem : (c x : ℕ) → c ≤ x → ¬ (x ≡ c) → c < x
    after_lem c x p q = omega (arith, p, q)

pub returns-clause-fits : goal.returns-clause-fits
returns-clause-fits c =
    c.in_ok-value-2.ensures.fits ∙ ap (λ x. lowered_fits x c.args.by.now c.args.unit.now)
    (c.zero.ensures ∙ sym (none_there c))

pub returns-clause-split : goal.returns-clause-split
returns-clause-split c =
    split_other (row_columns c.args.row.now) c.copy_below-end.result c.args.column
    c.copy_below-end.ensures.split (not_here c)
    (c.args.row.now.sparse.rising c.copy_below-end.result)

pub returns-clause-copied : goal.returns-clause-copied
returns-clause-copied c =
    copied_then c.args.row.now c.args.i c.args.column c.args.next.now c.copy_below-end.new.next
    c.push_any-2.new.self c.in_ok-value-2.value _ c.copy_below-end.ensures.copied
    c.push_any-2.ensures
    (c.in_ok-value-2.ensures.ok.0 ∙ ap (λ x. x -ℚ c.args.by.now *ℚ c.args.unit.now) (c.zero.ensures
    ∙ sym (none_there c)))
