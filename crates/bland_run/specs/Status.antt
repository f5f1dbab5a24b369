-- How a run ends.
use Rattle.std.specs.Prelude.{ℕ, Bool, true, false}
use Rattle.io_face.specs.declared.shelf.FetchFault.{FetchFault}
use Rattle.io_face.specs.declared.shelf.FetchFault.TheVariants as read
use Rattle.io_face.specs.declared.sink.SinkFault.{SinkFault}
use Rattle.io_face.specs.declared.sink.SinkFault.TheVariants as write
use Rattle.bland_run.specs.declared.status.Status.{Status}
use Rattle.bland_run.specs.declared.status.Status.TheVariants.{Done, Memory, ReadFault, SomeRefused, TooLong, Usage, WriteFault}

-- the exit status of the program
abbrev pub exit_number : Status → ℕ
exit_number Done = 0
exit_number SomeRefused = 1
exit_number Usage = 2
exit_number ReadFault = 3
exit_number WriteFault = 4
exit_number Memory = 5
exit_number TooLong = 6

-- there was a refusal, where the work ended
abbrev pub has_refused : Status → Bool
has_refused SomeRefused = true
has_refused status = false

-- the work ended with an answer or a refusal
abbrev pub IsFormAnswered : Status → Type 0
IsFormAnswered Done = Unit {0}
IsFormAnswered SomeRefused = Unit {0}
IsFormAnswered Usage = ⊥
IsFormAnswered ReadFault = ⊥
IsFormAnswered WriteFault = ⊥
IsFormAnswered Memory = ⊥
IsFormAnswered TooLong = ⊥

abbrev pub status_of_read : FetchFault → Status
status_of_read read.Failed = ReadFault
status_of_read read.TooLong = TooLong
status_of_read read.Memory = Memory

abbrev pub status_of_write : SinkFault → Status
status_of_write write.Failed = WriteFault
status_of_write write.Memory = Memory
