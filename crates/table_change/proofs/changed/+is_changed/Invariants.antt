use Rattle.table_change.proofs.changed.+is_changed.Given as goal

abbrev pub decreases-is_changed : goal.decreases-is_changed
decreases-is_changed l = l.levels
