use Rattle.std.proofs.Common.{◌≡◌, ◌++◌}
use Rattle.user_model.specs.Deletion.{row_without}
use Rattle.user_model.specs.Edited.{row_number}
use Rattle.model_laws.specs.ItemChanges.{edits_of}
use Rattle.user_model.specs.Model.{row_mentions}
use Rattle.model_plans.proofs.deletion.rows_without.Given as goal

abbrev pub invariant-loop-row : goal.invariant-loop-row
invariant-loop-row l =
    l.changes.items ++ edits_of row_number (row_without l.at) (row_mentions l.at) l.row-iterator
    ≡ edits_of row_number (row_without l.at) (row_mentions l.at) l.rows.items
