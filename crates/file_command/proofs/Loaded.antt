-- The model of a file, or what is answered without one.
use Rattle.std.proofs.Common.{◌≡◌, ℕ, List, [], ap₂, refl, subst, sym, ◌∙◌, Ok, Err}
use Rattle.std.specs.Prelude.{IfOk, Result}
use Rattle.std.specs.Result.{result_unwrap_or}
use Rattle.file_answers.specs.FileAnswers.{fault_answer, refused}
use Rattle.io_face.specs.Told.{Told}
use Rattle.lists.specs.declared.memory.Memory.{Memory as NoMemory}
use Rattle.file_command.specs.Loading.{LoadsStored, MakesOn, MakesStored}
use Rattle.model_load.specs.Loads.{after_edits}
use Rattle.model_store.specs.Store.{StoredModel}
use Rattle.model_store.specs.declared.parked.Parked.{Parked}
use Rattle.mof_fetch.specs.Fetched.{IsReadOf}
use Rattle.mof_fetch.specs.declared.fault.FileFault.{FileFault}
use Rattle.report_core.specs.Refused.{refused_of}
use Rattle.report_core.specs.declared.answer.Answer.{Answer}
use Rattle.report_core.specs.declared.answer.Answer.TheVariants.{Memory, ReadFault}
use Rattle.user_model.specs.Model.{ModelValue, empty_model}
use Rattle.user_model.specs.declared.edit.Edit.{Edit}
use Rattle.user_model.specs.declared.refusal.Refusal.{Refusal}

-- ---- no edits

pub loads_fault : (shelf : Told) (name : List ℕ) (why : FileFault)
    (told : Result Answer NoMemory) (answer : Answer) → IsReadOf shelf name (Err why)
    → IfOk told (λ a. a ≡ fault_answer why) → answer ≡ result_unwrap_or told Memory
    → LoadsStored shelf name (Err answer)
loads_fault shelf name why (Err e) answer of h is = λ not. absurd (not is)
loads_fault shelf name why (Ok a) answer of h is = λ not. (Err why, of, is ∙ h)

-- ---- edits that are refused

pub makes_refused : (made : Result ModelValue Refusal) (parked : List Parked) (reason : Refusal)
    (told : Result Answer NoMemory) (answer : Answer) (new : StoredModel) → made ≡ Err reason
    → IfOk told (λ a. a ≡ refused (refused_of reason)) → answer ≡ result_unwrap_or told Memory
    → MakesOn made parked (Err answer) new
makes_refused made parked reason (Err e) answer new is h same = λ not. absurd (not same)
makes_refused made parked reason (Ok a) answer new is h same =
    λ not. subst (λ m. MakesOn m parked (Err answer) new) (sym is) (λ _. same ∙ h) not

-- ---- the model

pub loads_made : (shelf : Told) (name : List ℕ) (edits : List Edit) (result : Result StoredModel Answer)
    → IsReadOf shelf name (Ok edits) → MakesStored (after_edits empty_model edits) result
    → LoadsStored shelf name result
loads_made shelf name edits (Ok stored) of h =
    record { edits = edits; read = of; made = h.0; settled = h.1 }
loads_made shelf name edits (Err answer) of h = λ not. (Ok edits, of, h not)

-- ---- on an empty model, which is lent

module _ (start new : StoredModel) (listed edits : List Edit) (empty : start.model ≡ empty_model)
    (same : listed ≡ edits) where
  pub made_here : start.parked ≡ []
      → MakesOn (after_edits start.model listed) start.parked (Ok tt) new
      → MakesStored (after_edits empty_model edits) (Ok new)
  made_here none h = (sym (ap₂ after_edits empty same) ∙ h.0, h.1 ∙ none)

  pub none_here : (answer : Answer)
      → MakesOn (after_edits start.model listed) start.parked (Err answer) new
      → MakesStored (after_edits empty_model edits) (Err answer)
  none_here answer h =
      subst (λ made. MakesStored made (Err answer)) (ap₂ after_edits empty same) h

-- no edits of a file say that it failed
pub never_read : (made : Result ModelValue Refusal) (result : Result StoredModel Answer)
    → MakesStored made result → result ≡ Err ReadFault → ⊥
never_read made result h e = by made (subst (MakesStored made) e h)
  where
    by : (made : Result ModelValue Refusal) → MakesStored made (Err ReadFault) → ⊥
    by (Ok model) h = h (λ f. cc)
    by (Err refusal) h = let f = h (λ f. cc) in cc
