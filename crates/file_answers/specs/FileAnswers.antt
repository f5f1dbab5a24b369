-- What is answered where a call is refused, and where the edits of a file weren't read.
use Rattle.std.specs.Prelude.{Option, Some, None}
use Rattle.mof_fetch.specs.declared.fault.FileFault.{FileFault}
use Rattle.mof_fetch.specs.declared.fault.FileFault.TheVariants as file
use Rattle.report_core.specs.Refused.{refusal_text}
use Rattle.report_core.specs.declared.answer.Answer.{Answer}
use Rattle.report_core.specs.declared.answer.Answer.TheVariants.{Memory, ReadFault, Refused, TooLong}
use Rattle.report_core.specs.declared.refused.Refused as refusal
use Rattle.report_core.specs.declared.refused.Refused.TheVariants.{File}

abbrev pub refused : refusal.Refused → Answer
refused r = Refused (refusal_text r)

-- a refusal, and that memory ran out where there is none
abbrev pub refusal_answer : Option refusal.Refused → Answer
refusal_answer (Some r) = refused r
refusal_answer None = Memory

-- why no edits were read of a file
abbrev pub fault_answer : FileFault → Answer
fault_answer file.Failed = ReadFault
fault_answer file.TooLong = TooLong
fault_answer (file.Unread kind place) = refused (File kind place)
fault_answer file.Memory = Memory
