use Rattle.std.specs.Prelude.{◌≡◌, ◌+◌, length}
use Rattle.certificates.specs.Points.{variables_of}
use Rattle.relaxation.proofs.names.variable_count.Given as goal

abbrev pub invariant-loop-group : goal.invariant-loop-group
invariant-loop-group l =
    l.count + length (variables_of l.group-iterator) ≡ length (variables_of l.groups.items)
