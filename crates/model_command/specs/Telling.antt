-- What is answered where no solver is attached, or it gives no certificate.
use Rattle.cache_layer.specs.declared.fault.AttachFault.{AttachFault}
use Rattle.cache_layer.specs.declared.fault.AttachFault.TheVariants as attach
use Rattle.cache_layer.specs.declared.fault.OptFault.{OptFault}
use Rattle.cache_layer.specs.declared.fault.OptFault.TheVariants as opt
use Rattle.file_answers.specs.FileAnswers.{refused}
use Rattle.report_core.specs.declared.answer.Answer.{Answer}
use Rattle.report_core.specs.declared.answer.Answer.TheVariants.{Memory}
use Rattle.report_core.specs.declared.refused.Refused.TheVariants.{AlreadyAttached, Limit, NotAttached, Overflow, TooLarge, Unsupported}

abbrev pub attach_fault_answer : AttachFault → Answer
attach_fault_answer attach.AlreadyAttached = refused AlreadyAttached
attach_fault_answer (attach.Unsupported kind) = refused (Unsupported kind)
attach_fault_answer (attach.Overflow place) = refused (Overflow place)
attach_fault_answer attach.Memory = Memory

abbrev pub optimize_fault_answer : OptFault → Answer
optimize_fault_answer opt.NotAttached = refused NotAttached
optimize_fault_answer (opt.TooLarge cells) = refused (TooLarge cells)
optimize_fault_answer (opt.Overflow place) = refused (Overflow place)
optimize_fault_answer (opt.Limit pivots) = refused (Limit pivots)
optimize_fault_answer opt.Memory = Memory
