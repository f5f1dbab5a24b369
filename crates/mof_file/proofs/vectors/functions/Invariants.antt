use Rattle.std.proofs.Common.{◌++◌, ◌≡◌}
use Rattle.std.specs.Vec.Iter.{into_iter_items}
use Rattle.mof_file.proofs.vectors.functions.Given as goal

abbrev pub invariant-loop-component : goal.invariant-loop-component
invariant-loop-component l =
    l.functions.items ++ into_iter_items l.component-iterator ≡ l.fn.components.items
