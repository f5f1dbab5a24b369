use Rattle.std.proofs.Common.{◌≡◌, ◌++◌, take}
use Rattle.std.specs.Prelude.{flat_map}
use Rattle.aff_core.specs.Function.{coefficient}
use Rattle.std_form.specs.Borrowed.{function_in}
use Rattle.std_form.proofs.Pushes.{chunk}
use Rattle.std_form.proofs.numbers.push_numbers.Given as goal

abbrev pub invariant-loop-i : goal.invariant-loop-i
invariant-loop-i l =
    l.cells.items ≡ l.initial.cells.items ++ flat_map
    (chunk l.negated (coefficient (function_in l.function))) (take l.i-index l.variables)
