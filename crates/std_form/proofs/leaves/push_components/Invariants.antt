use Rattle.std.proofs.Common.{◌≡◌, ◌++◌, map, take}
use Rattle.equality_form.specs.Equations.{equations_for}
use Rattle.std_form.specs.Borrowed.{equation_in}
use Rattle.std_form.proofs.leaves.push_components.Given as goal

abbrev pub invariant-loop-component : goal.invariant-loop-component
invariant-loop-component l =
    map equation_in l.equations.items ≡ map equation_in l.initial.equations.items ++ equations_for
    l.set (take l.component-index l.func)
