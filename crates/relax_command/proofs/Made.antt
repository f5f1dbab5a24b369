-- A model that is made its relaxation by its edits, and what is answered to it.
use Rattle.std.proofs.Common.{◌≡◌, ◌≢◌, ◌∙◌, List, ap, refl, subst, sym, Ok, Err}
use Rattle.std.specs.Prelude.{IfOk, Result}
use Rattle.std.specs.Result.{result_unwrap_or}
use Rattle.file_command.specs.Loading.{AnswersMade, MakesOn}
use Rattle.fresh_bridging.specs.TheRules.{Setting}
use Rattle.limit_laws.specs.Limits.{LimitsAlone}
use Rattle.lists.specs.declared.memory.Memory.{Memory as NoMemory}
use Rattle.model_command.specs.Alone.{alone}
use Rattle.model_command.specs.Solved.{SaysSolved}
use Rattle.model_load.specs.Loads.{after_edits}
use Rattle.model_store.specs.Store.{StoredModel}
use Rattle.relax_command.specs.Says.{Relaxes, SaysMade, SaysOfRelaxation, SaysRelaxedCertificate}
use Rattle.relaxation.specs.Answers.{IsRelaxedFrom}
use Rattle.relaxation.specs.RelaxedEdits.{relaxed_edits}
use Rattle.relaxed_model.specs.Relaxed.{relaxed_model}
use Rattle.report_core.specs.declared.answer.Answer.{Answer}
use Rattle.report_core.specs.declared.answer.Answer.TheVariants.{Memory}
use Rattle.user_model.specs.Model.{ModelValue}
use Rattle.user_model.specs.Valid.{IsValid}
use Rattle.user_model.specs.declared.edit.Edit.{Edit}
use Rattle.user_model.specs.declared.refusal.Refusal.{Refusal}

-- edits that are made, or of which one is refused
module _ (old new : StoredModel) (valid : IsValid old.model) (edits : List Edit)
    (are : edits ≡ relaxed_edits old.model)
    (leads : (m : ModelValue) → after_edits old.model edits ≡ Ok m
    → m ≡ relaxed_model old.model) (limits : LimitsAlone old.model edits) where
  same_gave : (gave : Result ModelValue Refusal) → after_edits old.model edits ≡ gave
      → after_edits old.model (relaxed_edits old.model) ≡ gave
  same_gave gave h = sym (ap (after_edits old.model) are) ∙ h

  refused_edit : (setting : Setting) (gave : Result ModelValue Refusal) (answer : Answer)
      → after_edits old.model edits ≡ gave → AnswersMade (λ model said. ⊥) gave answer
      → SaysOfRelaxation setting old.model answer
  refused_edit setting (Ok m) answer h said = absurd said
  refused_edit setting (Err refusal) answer h said =
      subst (λ gave. SaysMade old.model setting gave answer) (sym (same_gave (Err refusal) h))
      (limits refusal h, said)

  pub relaxed_made : (result : Result Unit Answer)
      → MakesOn (after_edits old.model edits) old.parked result new → Relaxes old result new
  relaxed_made (Ok done) h = (
    record { valid = valid; is = leads new.model h.0 },
    same_gave (Ok new.model) h.0,
    h.1,
  )
  relaxed_made (Err answer) h = λ not setting.
      refused_edit setting (after_edits old.model edits) answer refl (h not)

-- what is answered to the relaxation
pub says_with : (setting : Setting) (old new : StoredModel) (told : Result Answer NoMemory)
    (answer : Answer) → Relaxes old (Ok tt) new
    → ((model : ModelValue) → IsRelaxedFrom model new.model
    → IfOk told (SaysSolved (SaysRelaxedCertificate model) (alone setting new.model)))
    → answer ≡ result_unwrap_or told Memory → answer ≢ Memory
    → SaysOfRelaxation setting old.model answer
says_with setting old new (Ok a) answer h says is not =
    subst (λ gave. SaysMade old.model setting gave answer) (sym h.1) (
      h.0.is,
      subst (SaysSolved (SaysRelaxedCertificate old.model) (alone setting new.model)) (sym is)
          (says old.model h.0),
    )
says_with setting old new (Err e) answer h says is not = absurd (not is)
