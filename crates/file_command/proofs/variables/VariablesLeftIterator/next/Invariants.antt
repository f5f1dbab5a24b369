use Rattle.std.proofs.Common.{◌≡◌, length}
use Rattle.file_command.specs.Left.{variables_left}
use Rattle.file_command.proofs.variables.VariablesLeftIterator.next.Given as goal

abbrev pub invariant-loop-self : goal.invariant-loop-self
invariant-loop-self l = variables_left l.self ≡ variables_left l.initial.self

abbrev pub decreases-loop-self : goal.decreases-loop-self
decreases-loop-self l = length l.self.groups
