-- Where nothing is answered for want of a file, the shelf may not give it.
use Rattle.std.specs.Prelude.{◌≡◌, ◌≢◌, ℕ, List, Option, Some, None, Result, Ok, Err, refl}
use Rattle.std.proofs.Common.{sym, ap, ◌∙◌, subst}
use Rattle.std.proofs.lemmas.Option.{none-some, same_Some}
use Rattle.model_load.specs.Loads.{after_edits}
use Rattle.io_face.specs.Told.{MayGive, Told}
use Rattle.io_face.specs.declared.shelf.FetchFault.{FetchFault}
use Rattle.io_face.specs.declared.shelf.FetchFault.TheVariants as fetch
use Rattle.file_command.specs.Loading.{AnswersFile, AnswersMade, AnswersRead, LoadsStored}
use Rattle.mof_fetch.specs.Fetched.{IsReadOf}
use Rattle.mof_fetch.specs.FetchedLaws.{may_fail}
use Rattle.mof_fetch.specs.declared.fault.FileFault.{FileFault}
use Rattle.mof_fetch.specs.declared.fault.FileFault.TheVariants as file
use Rattle.report_core.specs.declared.answer.Answer.{Answer}
use Rattle.model_store.specs.Store.{StoredModel}
use Rattle.report_core.specs.declared.answer.Answer.TheVariants.{Memory, ReadFault, TooLong}
use Rattle.user_model.specs.Model.{ModelValue, empty_model}
use Rattle.user_model.specs.declared.edit.Edit.{Edit}
use Rattle.user_model.specs.declared.refusal.Refusal.{Refusal}

-- the fault of the shelf that an answer is, if it is one
abbrev pub shelf_fault : Answer → Option FetchFault
shelf_fault ReadFault = Some fetch.Failed
shelf_fault TooLong = Some fetch.TooLong
shelf_fault answer = None

-- an answer that is another
pub same_fault : (answer said : Answer) → answer ≡ said → shelf_fault said ≡ None
    → shelf_fault answer ≡ None
same_fault answer said is none = ap shelf_fault is ∙ none

-- what is answered to a model is no fault of the shelf
abbrev pub SaysNoFault : (ModelValue → Answer → Type 0) → Type 0
SaysNoFault says = (model : ModelValue) (answer : Answer) → says model answer
    → shelf_fault answer ≡ None

module _ (says : ModelValue → Answer → Type 0) (plain : SaysNoFault says) where
  made_plain : (made : Result ModelValue Refusal) (answer : Answer) → AnswersMade says made answer
      → shelf_fault answer ≡ None
  made_plain (Ok model) answer h = plain model answer h
  made_plain (Err refusal) answer h = ap shelf_fault h

  read_fails : (shelf : Told) (name : List ℕ) (read : Result (List Edit) FileFault)
      (answer : Answer) (reason : FetchFault) → IsReadOf shelf name read
      → AnswersRead says read answer → shelf_fault answer ≡ Some reason
      → MayGive shelf name (Err reason)
  read_fails shelf name (Ok edits) answer reason of h tells =
      absurd (none-some reason
      (sym (made_plain (after_edits empty_model edits) answer h) ∙ tells))
  read_fails shelf name (Err file.Failed) answer reason of h tells =
      may_fail shelf name (Err file.Failed) reason
      (ap Some (same_Some fetch.Failed reason (sym (ap shelf_fault h) ∙ tells))) of
  read_fails shelf name (Err file.TooLong) answer reason of h tells =
      may_fail shelf name (Err file.TooLong) reason
      (ap Some (same_Some fetch.TooLong reason (sym (ap shelf_fault h) ∙ tells))) of
  read_fails shelf name (Err (file.Unread number place)) answer reason of h tells =
      absurd (none-some reason (sym (ap shelf_fault h) ∙ tells))
  read_fails shelf name (Err file.Memory) answer reason of h tells =
      absurd (none-some reason (sym (ap shelf_fault h) ∙ tells))

  pub file_fails : (shelf : Told) (name : List ℕ) → AnswersFile says shelf name ReadFault
      → MayGive shelf name (Err fetch.Failed)
  file_fails shelf name h =
      read_fails shelf name h.0 ReadFault fetch.Failed h.1 h.2 (λ i. Some fetch.Failed)

  pub file_too_long : (shelf : Told) (name : List ℕ) → AnswersFile says shelf name TooLong
      → MayGive shelf name (Err fetch.TooLong)
  file_too_long shelf name h =
      read_fails shelf name h.0 TooLong fetch.TooLong h.1 h.2 (λ i. Some fetch.TooLong)

-- what is answered without a model is answered whatever is said of models
module _ (says : ModelValue → Answer → Type 0) where
  pub made_any : (made : Result ModelValue Refusal) (answer : Answer)
      → AnswersMade (λ model said. ⊥) made answer → AnswersMade says made answer
  made_any (Ok model) answer h = absurd h
  made_any (Err refusal) answer h = h

  read_any : (read : Result (List Edit) FileFault) (answer : Answer)
      → AnswersRead (λ model said. ⊥) read answer → AnswersRead says read answer
  read_any (Ok edits) answer h = made_any (after_edits empty_model edits) answer h
  read_any (Err reason) answer h = h

  pub answered_without : (shelf : Told) (name : List ℕ) (answer : Answer)
      → LoadsStored shelf name (Err answer) → answer ≢ Memory → AnswersFile says shelf name answer
  answered_without shelf name answer h not =
      let file = h not in (file.0, file.1, read_any file.0 answer file.2)

  -- what is said of the model of a file is answered to the file
  pub answered_with : (shelf : Told) (name : List ℕ) (stored : StoredModel) (answer : Answer)
      → LoadsStored shelf name (Ok stored) → says stored.model answer
      → AnswersFile says shelf name answer
  answered_with shelf name stored answer h said = (
    Ok h.edits,
    h.read,
    subst (λ made. AnswersMade says made answer) (sym h.made) said,
  )
