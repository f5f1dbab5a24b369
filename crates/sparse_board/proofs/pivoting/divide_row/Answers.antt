use Rattle.std.proofs.Common.{◌<◌, ◌≡◌, Some, ap, slice_index_or, subst, sym, ◌∙◌}
use Rattle.ratio_core.specs.Rational.{◌/ℚ◌}
use Rattle.tableau_core.specs.BoardNumbers.{quotients_fit}
use Rattle.sparse_board.specs.Mixed as mixed
use Rattle.sparse_board.specs.Rows.{now_at, numbers, width_at}
use Rattle.sparse_board.proofs.RowSteps.{on_ok_then}
use Rattle.sparse_board.proofs.TestSteps.{test_same}
use Rattle.sparse_board.proofs.RowsSteps.{row_is}
use Rattle.sparse_board.proofs.pivoting.divide_row.Goals as goal
use Rattle.sparse_board.proofs.pivoting.divide_row.Goals.{After-set}

row_read : (c : After-set) → Some (slice_index_or c.args.rows.now c.args.r c.index-rows-r.result).now
    ≡ now_at c.args.rows.now c.args.r
row_read c = sym (row_is c.args.rows.now c.args.r c.index-rows-r.result c.requires.row)

row_wide : (c : After-set)
    → mixed.width_of (slice_index_or c.args.rows.now c.args.r c.index-rows-r.result).now
    ≡ c.args.step.now.width
row_wide c = ap width_at (row_read c) ∙ c.requires.wide c.args.r c.requires.row

pub returns-clause-fits : goal.returns-clause-fits
returns-clause-fits c =
    test_same c.set.result _ _
    (λ i. quotients_fit (row_wide c i) (numbers (row_read c i)) (numbers (row_read c i) c.args.q))
    c.set.ensures.fits

pub returns-clause-ok : goal.returns-clause-ok
returns-clause-ok c =
    on_ok_then c.set.result _ _ (λ h j b. h j (subst (λ n. j < n) (sym (row_wide c)) b)
    ∙ (λ i. numbers (row_read c i) j /ℚ numbers (row_read c i) c.args.q)) c.set.ensures.ok
