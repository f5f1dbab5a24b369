-- The model of a file of a shelf, and what is answered where there is none.
use Rattle.std.specs.Prelude.{◌≡◌, ◌≢◌, ℕ, List, [], Result, Ok, Err}
use Rattle.model_load.specs.Loads.{after_edits}
use Rattle.file_answers.specs.FileAnswers.{fault_answer, refused}
use Rattle.io_face.specs.Told.{Told}
use Rattle.model_store.specs.Store.{StoredModel}
use Rattle.model_store.specs.declared.parked.Parked.{Parked}
use Rattle.mof_fetch.specs.Fetched.{IsReadOf}
use Rattle.mof_fetch.specs.declared.fault.FileFault.{FileFault}
use Rattle.report_core.specs.Refused.{refused_of}
use Rattle.report_core.specs.declared.answer.Answer.{Answer}
use Rattle.report_core.specs.declared.answer.Answer.TheVariants.{Memory}
use Rattle.user_model.specs.Model.{ModelValue, empty_model}
use Rattle.user_model.specs.declared.edit.Edit.{Edit}
use Rattle.user_model.specs.declared.refusal.Refusal.{Refusal}

-- ---- what is answered to a file, by what is answered to its model

-- the model that the edits make, or their first refusal
abbrev pub AnswersMade : (ModelValue → Answer → Type 0) → Result ModelValue Refusal → Answer
    → Type 0
AnswersMade says (Ok model) answer = says model answer
AnswersMade says (Err refusal) answer = answer ≡ refused (refused_of refusal)

-- the edits of the file, or why there are none
abbrev pub AnswersRead : (ModelValue → Answer → Type 0) → Result (List Edit) FileFault → Answer
    → Type 0
AnswersRead says (Ok edits) answer = AnswersMade says (after_edits empty_model edits) answer
AnswersRead says (Err fault) answer = answer ≡ fault_answer fault

-- the file of this name, read as it may be
abbrev pub AnswersFile : (ModelValue → Answer → Type 0) → Told → List ℕ → Answer → Type 0
AnswersFile says shelf name answer =
    (read : Result (List Edit) FileFault) × IsReadOf shelf name read
    × AnswersRead says read answer

-- ---- the model alone

-- the file's edits make the model, and nothing of it waits
pub record IsModelOf (shelf : Told) (name : List ℕ) (stored : StoredModel) : Type 0 where
  pub edits : List Edit
  pub read : IsReadOf shelf name (Ok edits)
  pub made : after_edits empty_model edits ≡ Ok stored.model
  pub settled : stored.parked ≡ []

-- a model, or what is answered without one, unless memory ran out
abbrev pub LoadsStored : Told → List ℕ → Result StoredModel Answer → Type 0
LoadsStored shelf name (Ok stored) = IsModelOf shelf name stored
LoadsStored shelf name (Err answer) = answer ≢ Memory → AnswersFile (λ model said. ⊥) shelf name answer

-- the same of edits that make a model, or are refused
abbrev pub MakesStored : Result ModelValue Refusal → Result StoredModel Answer → Type 0
MakesStored made (Ok stored) = (made ≡ Ok stored.model) × (stored.parked ≡ [])
MakesStored made (Err answer) = answer ≢ Memory → AnswersMade (λ model said. ⊥) made answer

-- on a model
abbrev pub MakesOn : Result ModelValue Refusal → List Parked → Result Unit Answer → StoredModel
    → Type 0
MakesOn made parked (Ok done) new = (made ≡ Ok new.model) × (new.parked ≡ parked)
MakesOn made parked (Err answer) new =
    answer ≢ Memory → AnswersMade (λ model said. ⊥) made answer
