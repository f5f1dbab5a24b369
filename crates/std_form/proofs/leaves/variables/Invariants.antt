use Rattle.std.proofs.Common.{◌≡◌, ◌++◌}
use Rattle.std.specs.Prelude.{filter_map}
use Rattle.std_form.specs.Indexed.{leaf_at, leaves_at}
use Rattle.std_form.proofs.leaves.variables.Given as goal

abbrev pub invariant-loop-entry : goal.invariant-loop-entry
invariant-loop-entry l =
    l.variables.items ++ filter_map (leaf_at l.solver.leaves.vars) l.entry-iterator
    ≡ leaves_at l.map.vars.indices l.solver.leaves.vars
