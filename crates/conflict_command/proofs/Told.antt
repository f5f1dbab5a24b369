-- What is answered to what is found, and to the model of a file.
use Rattle.std.proofs.Common.{◌≡◌, ◌≢◌, ◌+◌, ◌≤◌, List, ℕ, arith, length, subst, sym, Ok, Err}
use Rattle.std.proofs.lemmas.Result.{IfOk-weaker}
use Rattle.std.specs.Prelude.{IfOk, Result}
use Rattle.std.specs.Result.{result_unwrap_or}
use Rattle.cache_layer.specs.CacheState.{CacheState}
use Rattle.cache_layer.specs.declared.fault.OptFault.{OptFault}
use Rattle.certificates.specs.Points.{variables_of}
use Rattle.conflict_command.proofs.Printed.{says_found}
use Rattle.conflict_command.proofs.Room.{file_in_step}
use Rattle.conflict_command.specs.Says.{SaysOfConflict, SaysSought}
use Rattle.conflict_command.specs.Text.{found_text}
use Rattle.file_command.specs.Loading.{IsModelOf}
use Rattle.fresh_bridging.specs.TheRules.{Setting}
use Rattle.io_face.specs.Told.{Told}
use Rattle.lists.specs.declared.memory.Memory.{Memory as NoMemory}
use Rattle.model_command.specs.Alone.{alone}
use Rattle.model_command.specs.Solved.{pivots}
use Rattle.model_command.specs.Telling.{optimize_fault_answer}
use Rattle.model_conflict.specs.Conflict.{ShowsFound}
use Rattle.model_conflict.specs.Walk.{Finds, NamesRows}
use Rattle.model_conflict.specs.declared.found.Found.{Found}
use Rattle.model_store.specs.Store.{StoredModel}
use Rattle.report_core.specs.declared.answer.Answer.{Answer}
use Rattle.report_core.specs.declared.answer.Answer.TheVariants.{Memory, Printed}
use Rattle.user_model.specs.Limits.{LAST_NUMBER}
use Rattle.user_model.specs.Model.{ModelValue}
use Rattle.user_model.specs.Valid.{IsValid}

-- ---- what is found of a state

module _ (s : CacheState) (told : Result Answer NoMemory) where
  -- the answer names rows and variables of the model that is left
  pub says_what : (new said : StoredModel) (found : Found) → Finds s pivots (Ok found)
      → ShowsFound s.model found → new.model.groups ≡ s.model.groups → NamesRows new.model found
      → said ≡ new
      → IfOk told (λ answer. answer ≡ Printed (found_text (variables_of said.model.groups)
      said.model.rows found)) → IfOk told (SaysSought s)
  says_what new said found finds shows groups names is h =
      IfOk-weaker told (λ answer. answer ≡ Printed (found_text (variables_of new.model.groups)
      new.model.rows found)) (SaysSought s)
      (λ answer e. (
        Ok found,
        finds,
        says_found s.model new.model found answer shows groups names e,
      ))
      (subst (λ (u : StoredModel). IfOk told (λ answer. answer
      ≡ Printed (found_text (variables_of u.model.groups) u.model.rows found))) is h)

  pub says_why : (why : OptFault) → Finds s pivots (Err why)
      → IfOk told (λ answer. answer ≡ optimize_fault_answer why) → IfOk told (SaysSought s)
  says_why why finds =
      IfOk-weaker told (λ answer. answer ≡ optimize_fault_answer why) (SaysSought s)
      (λ answer e. (Err why, finds, e))

-- ---- a model

-- it alone, before a solver is attached, where memory may run out
pub says_on : (setting : Setting) (model : ModelValue) (t : CacheState)
    (told : Result Answer NoMemory) (answer : Answer) → t ≡ alone setting model
    → IfOk told (SaysOfConflict t.setting t.model) → answer ≡ result_unwrap_or told Memory
    → answer ≢ Memory → SaysOfConflict setting model answer
says_on setting model t (Ok a) answer is said same not =
    subst (SaysOfConflict setting model) (sym same)
    (subst (λ (u : CacheState). SaysOfConflict u.setting u.model a) is said)
says_on setting model t (Err e) answer is said same not = absurd (not same)

-- that of a file has room for a further number for each row
pub has_room : (shelf : Told) (name : List ℕ) (stored : StoredModel) → IsModelOf shelf name stored
    → IsValid stored.model → stored.model.next.row + length stored.model.rows ≤ LAST_NUMBER + 1
has_room shelf name stored h valid =
    let rows = valid.within.rows in
    let step = file_in_step shelf name stored h in
    omega (arith, rows, step)
