-- How a run ends.
use Rattle.std.specs.Prelude.{ℕ}
use Rattle.file_command.specs.declared.status.Status.{Status}
use Rattle.file_command.specs.declared.status.Status.TheVariants.{Done, SomeRefused, Usage, ReadFault, WriteFault, Memory, TooLong}

-- the exit status of the program
abbrev pub exit_number : Status → ℕ
exit_number Done = 0
exit_number SomeRefused = 1
exit_number Usage = 2
exit_number ReadFault = 3
exit_number WriteFault = 4
exit_number Memory = 5
exit_number TooLong = 6

-- the answer was written whole
abbrev pub IsAnswerWritten : Status → Type 0
IsAnswerWritten Done = Unit {0}
IsAnswerWritten SomeRefused = Unit {0}
IsAnswerWritten _ = ⊥
