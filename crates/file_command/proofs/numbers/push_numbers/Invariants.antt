use Rattle.std.proofs.Common.{◌≡◌, ◌++◌, drop}
use Rattle.certificates.specs.Points.{variables_of}
use Rattle.file_command.specs.Left.{variables_left}
use Rattle.file_command.specs.Numbers.{numbers_text}
use Rattle.file_command.proofs.numbers.push_numbers.Given as goal

abbrev pub invariant-loop-number : goal.invariant-loop-number
invariant-loop-number l =
    l.draft ++ numbers_text l.beginning (variables_left l.variables) (drop l.number-index l.numbers)
    ≡ l.fn.draft ++ numbers_text l.beginning (variables_of l.groups.items) l.numbers
