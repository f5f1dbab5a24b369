use Rattle.std.specs.Prelude.{◌≡◌, ◌++◌}
use Rattle.dual_model.specs.DualOf.{column_in}
use Rattle.dualization.proofs.coefficients.column_in.Given as goal

abbrev pub invariant-loop-row : goal.invariant-loop-row
invariant-loop-row l =
    l.column.items ++ column_in l.row-iterator l.at ≡ column_in l.rows.items l.at
