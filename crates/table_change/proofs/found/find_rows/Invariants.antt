use Rattle.std.specs.Prelude.{map}
use Rattle.found_plan.specs.Read.{is_marked}
use Rattle.fresh_bridging.specs.ModelImage.{row_item}
use Rattle.table_change.specs.Given.{is_given, passes}
use Rattle.table_change.proofs.FoundSteps.{IsFinding}
use Rattle.table_change.proofs.found.find_rows.Given as goal
use Rattle.user_model.specs.declared.row.Row.{Row}

abbrev pub invariant-loop-row : goal.invariant-loop-row
invariant-loop-row l =
    IsFinding (λ (x : Row). is_given (passes l.changed) (is_marked l.map) (row_item x))
    l.rows.items l.row-iterator (map (λ x. x.now) l.list.items)
