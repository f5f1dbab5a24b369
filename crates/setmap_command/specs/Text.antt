-- The refusals that the command has beside those of a script.
use Rattle.std.specs.Prelude.{ℕ, List, ◌++◌, codes, decimal}
use Rattle.file_answers.specs.FileAnswers.{refused}
use Rattle.mapped_model.specs.declared.fault.MappingFault.{MappingFault}
use Rattle.mapped_model.specs.declared.fault.MappingFault.TheVariants as fault
use Rattle.report_core.specs.declared.answer.Answer.{Answer}
use Rattle.report_core.specs.declared.answer.Answer.TheVariants.{Memory, Refused}
use Rattle.report_core.specs.declared.refused.Place.TheVariants.{Row}
use Rattle.report_core.specs.declared.refused.Refused.TheVariants.{Overflow}
use Rattle.report_core.specs.Refused.{refused_of}
use Rattle.report_core.specs.Words.{newline}

-- `refused 25 BadMaps LINE`
abbrev pub bad_maps : ℕ → Answer
bad_maps line = Refused (codes "refused 25 BadMaps " ++ decimal line ++ newline)

-- `refused 24 BadMap NAME`
abbrev pub bad_map : List ℕ → Answer
bad_map name = Refused (codes "refused 24 BadMap " ++ name ++ newline)

-- a number of the row exceeds 128 bits
abbrev pub row_overflow : List ℕ → Answer
row_overflow row = refused (Overflow (Row row))

abbrev pub fault_answer : MappingFault → Answer
fault_answer (fault.BadMaps line) = bad_maps line
fault_answer (fault.BadMap name) = bad_map name
fault_answer (fault.Refused reason) = refused (refused_of reason)
fault_answer (fault.Overflow row) = row_overflow row
fault_answer fault.Memory = Memory
