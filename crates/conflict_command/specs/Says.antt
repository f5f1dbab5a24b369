-- What is answered to a model: by the target `standard` and an allowance of 100,000 pivots an
-- optimise, what is found of it without its objective.
use Rattle.std.specs.Prelude.{◌≡◌, ℕ, List, Result, Ok, Err}
use Rattle.cache_layer.specs.Answers.{IsAttached}
use Rattle.cache_layer.specs.CacheState.{CacheState}
use Rattle.cache_layer.specs.declared.fault.AttachFault.{AttachFault}
use Rattle.cache_layer.specs.declared.fault.OptFault.{OptFault}
use Rattle.certificates.specs.Feasible.{IsFeasible}
use Rattle.certificates.specs.Points.{variables_of}
use Rattle.conflict_command.specs.Text.{conflict_text, feasible_text}
use Rattle.model_command.specs.Telling.{attach_fault_answer, optimize_fault_answer}
use Rattle.fresh_bridging.specs.TheRules.{Setting}
use Rattle.model_command.specs.Alone.{alone}
use Rattle.model_command.specs.Solved.{pivots}
use Rattle.model_conflict.specs.Conflict.{IsConflict, NeededRow, conflict_of, rows_of}
use Rattle.model_conflict.specs.Walk.{Finds}
use Rattle.model_conflict.specs.declared.found.Found.{Found}
use Rattle.model_conflict.specs.declared.found.Found.TheVariants.{Conflict, Feasible}
use Rattle.report_core.specs.declared.answer.Answer.{Answer}
use Rattle.report_core.specs.declared.answer.Answer.TheVariants.{Printed}
use Rattle.user_model.specs.Model.{ModelValue}
use Rattle.user_model.specs.declared.objective.Objective.TheVariants.{Feasibility}

-- a feasible point or a conflict, in the model's names; or a refusal, why neither is found
abbrev pub SaysFound : ModelValue → Result Found OptFault → Answer → Type 0
SaysFound model (Ok (Feasible x)) answer =
    IsFeasible model x × (answer ≡ Printed (feasible_text (variables_of model.groups) x))
SaysFound model (Ok (Conflict names certificate points)) answer =
    (needed : List NeededRow) × IsConflict model needed certificate
    × (Conflict names certificate points ≡ conflict_of needed certificate)
    × (answer ≡ Printed (conflict_text (variables_of model.groups) (rows_of needed) names certificate
    points))
SaysFound model (Err fault) answer = answer ≡ optimize_fault_answer fault

-- what is found of a state to which a solver is attached
abbrev pub SaysSought : CacheState → Answer → Type 0
SaysSought s answer =
    (result : Result Found OptFault) × Finds s pivots result × SaysFound s.model result answer

-- once a solver was attached, or was not
abbrev pub SaysConflictAttached : Result ℕ AttachFault → CacheState → Answer → Type 0
SaysConflictAttached (Ok leaves) s answer = SaysSought s answer
SaysConflictAttached (Err fault) s answer = answer ≡ attach_fault_answer fault

-- the model without its objective, and no solver attached
abbrev pub bare : Setting → ModelValue → CacheState
bare setting model = alone setting (record model { objective = Feasibility })

abbrev pub SaysOfConflict : Setting → ModelValue → Answer → Type 0
SaysOfConflict setting model answer =
    (made : Result ℕ AttachFault) × (after : CacheState) × IsAttached (bare setting model) made after
    × SaysConflictAttached made after answer
