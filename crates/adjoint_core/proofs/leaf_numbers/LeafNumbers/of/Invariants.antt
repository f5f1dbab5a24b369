use Rattle.std.proofs.Common.{◌≡◌, ◌++◌}
use Rattle.std.specs.FinMap as finite
use Rattle.std.specs.Prelude.{map}
use Rattle.adjoint_core.proofs.Spread.{number_at}
use Rattle.adjoint_core.proofs.leaf_numbers.LeafNumbers.of.Given as goal

abbrev pub invariant-loop-entry : goal.invariant-loop-entry
invariant-loop-entry l =
    (l.addresses.items ++ map (λ e. e.0) l.entry-iterator ≡ finite.keys l.places.vars.indices)
    × (l.numbers.items ++ map (number_at l.x) l.entry-iterator
    ≡ map (number_at l.x) (finite.entries l.places.vars.indices))
