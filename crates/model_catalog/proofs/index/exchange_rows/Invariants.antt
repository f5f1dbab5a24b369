use Rattle.std.proofs.Common.{◌≤◌}
use Rattle.model_catalog.proofs.RowLoop.{RowsSoFar}
use Rattle.model_catalog.proofs.index.exchange_rows.Given as goal

abbrev pub invariant-loop-change : goal.invariant-loop-change
invariant-loop-change l =
    RowsSoFar l.initial.rows.items l.rows.items l.initial.changes l.changes l.change-index
    l.rows.room l.initial.rows.room l.initial.kept.items l.kept.items
    × (l.initial.kept.room ≤ l.kept.room)
