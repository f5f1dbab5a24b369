use Rattle.std.proofs.Common.{◌≡◌, ◌++◌, map}
use Rattle.std.specs.Prelude.{filter_map}
use Rattle.std_form.specs.Borrowed.{row_in}
use Rattle.std_form.specs.Indexed.{leaf_at, leaves_at}
use Rattle.std_form.proofs.leaves.rows.Given as goal

abbrev pub invariant-loop-entry : goal.invariant-loop-entry
invariant-loop-entry l =
    map row_in l.rows.items ++ filter_map (leaf_at l.solver.leaves.rows) l.entry-iterator
    ≡ leaves_at l.places.rows.indices l.solver.leaves.rows
