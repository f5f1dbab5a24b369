use Rattle.std.proofs.Common.{◌≡◌}
use Rattle.std.specs.List.{list_any}
use Rattle.user_model.specs.Refusals.{is_cone_row_of}
use Rattle.model_refusals.proofs.bounds.is_in_cone_row.Given as goal

-- no row so far is such a row
abbrev pub invariant-loop-row : goal.invariant-loop-row
invariant-loop-row l =
    list_any (is_cone_row_of l.number) l.row-iterator
    ≡ list_any (is_cone_row_of l.number) l.rows.items
