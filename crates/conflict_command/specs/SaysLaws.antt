-- What is answered to a model is no fault of the shelf.
use Rattle.std.specs.Prelude.{◌≡◌, ℕ, None, Result, Ok, Err, refl}
use Rattle.cache_layer.specs.CacheState.{CacheState}
use Rattle.cache_layer.specs.declared.fault.AttachFault.{AttachFault}
use Rattle.cache_layer.specs.declared.fault.OptFault.{OptFault}
use Rattle.conflict_command.specs.Says.{SaysConflictAttached, SaysFound, SaysOfConflict}
use Rattle.file_command.specs.LoadingLaws.{SaysNoFault, same_fault, shelf_fault}
use Rattle.fresh_bridging.specs.TheRules.{Setting}
use Rattle.model_command.specs.TellingLaws.{attach_fault, optimize_fault}
use Rattle.model_conflict.specs.declared.found.Found.{Found}
use Rattle.model_conflict.specs.declared.found.Found.TheVariants.{Conflict, Feasible}
use Rattle.report_core.specs.declared.answer.Answer.{Answer}
use Rattle.user_model.specs.Model.{ModelValue}

found_plain : (model : ModelValue) (result : Result Found OptFault) (answer : Answer)
    → SaysFound model result answer → shelf_fault answer ≡ None
found_plain model (Ok (Feasible x)) answer h = same_fault answer _ h.1 refl
found_plain model (Ok (Conflict names certificate points)) answer h =
    same_fault answer _ h.3 refl
found_plain model (Err why) answer h = same_fault answer _ h (optimize_fault why)

attached_plain : (made : Result ℕ AttachFault) (s : CacheState) (answer : Answer)
    → SaysConflictAttached made s answer → shelf_fault answer ≡ None
attached_plain (Ok leaves) s answer h = found_plain s.model h.0 answer h.2
attached_plain (Err why) s answer h = same_fault answer _ h (attach_fault why)

pub says_plain : (setting : Setting) → SaysNoFault (SaysOfConflict setting)
says_plain setting model answer h = attached_plain h.0 h.1 answer h.3
