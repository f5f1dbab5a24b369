-- How a run ends.
use Rattle.std.specs.Prelude.{ℕ, Bool, true, false}
use Rattle.io_face.specs.declared.sink.SinkFault.{SinkFault}
use Rattle.io_face.specs.declared.sink.SinkFault.TheVariants as fault
use Rattle.moi_run.specs.declared.status.Status.{Status}
use Rattle.moi_run.specs.declared.status.Status.TheVariants.{Done, SomeRefused, Usage, ReadFault, WriteFault, Memory, TooLong}
use Rattle.moi_run.specs.declared.stop.RunStop.{RunStop}
use Rattle.moi_run.specs.declared.stop.RunStop.TheVariants as stop
use Rattle.line_reader.specs.declared.line_reader.ReadStop.{ReadStop}
use Rattle.line_reader.specs.declared.line_reader.ReadStop.TheVariants as read

-- the exit status of the program
abbrev pub exit_number : Status → ℕ
exit_number Done = 0
exit_number SomeRefused = 1
exit_number Usage = 2
exit_number ReadFault = 3
exit_number WriteFault = 4
exit_number Memory = 5
exit_number TooLong = 6

-- a line was refused, where the work ended
abbrev pub has_refused : Status → Bool
has_refused SomeRefused = true
has_refused status = false

abbrev pub stop_of_read : ReadStop → RunStop
stop_of_read read.ReadFault = stop.ReadFault
stop_of_read read.TooLong = stop.TooLong
stop_of_read read.Memory = stop.Memory

abbrev pub stop_of_sink : SinkFault → RunStop
stop_of_sink fault.Failed = stop.WriteFault
stop_of_sink fault.Memory = stop.Memory

abbrev pub status_of : RunStop → Status
status_of stop.ReadFault = ReadFault
status_of stop.WriteFault = WriteFault
status_of stop.Memory = Memory
status_of stop.TooLong = TooLong

-- the work ended: the input did, or a line ended it
abbrev pub IsEnded : Status → Type 0
IsEnded Done = Unit {0}
IsEnded SomeRefused = Unit {0}
IsEnded Usage = ⊥
IsEnded ReadFault = ⊥
IsEnded WriteFault = ⊥
IsEnded Memory = ⊥
IsEnded TooLong = ⊥
