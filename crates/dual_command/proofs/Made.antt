-- The dual as a model, made by its edits; and what is answered to it.
use Rattle.std.proofs.Common.{◌≡◌, ◌≢◌, ◌∙◌, List, ap, refl, subst, sym, Ok, Err}
use Rattle.std.specs.Prelude.{IfOk, Result}
use Rattle.std.specs.Result.{result_unwrap_or}
use Rattle.dual_command.specs.Duals.{Duals, IsDualOf}
use Rattle.dual_command.specs.Says.{MakesDual, SaysDual, SaysOfDual, full, made, unfit}
use Rattle.dual_command.specs.declared.command.Task.{Task}
use Rattle.dual_model.specs.DualOf.{dual_of_model}
use Rattle.dualization.specs.Answers.{IsDual, IsUnfit}
use Rattle.dualization.specs.DualEdits.{dual_edits}
use Rattle.file_answers.specs.FileAnswers.{refused}
use Rattle.file_command.specs.Loading.{AnswersMade, MakesStored}
use Rattle.fresh_bridging.specs.TheRules.{Setting}
use Rattle.limit_laws.specs.Leads.{all_edited}
use Rattle.limit_laws.specs.LeadsLaws.{made_after}
use Rattle.limit_laws.specs.Limits.{LimitsAlone}
use Rattle.lists.specs.declared.memory.Memory.{Memory as NoMemory}
use Rattle.model_load.specs.Loads.{after_edits}
use Rattle.model_store.specs.Store.{StoredModel}
use Rattle.report_core.specs.declared.answer.Answer.{Answer}
use Rattle.report_core.specs.declared.answer.Answer.TheVariants.{Memory}
use Rattle.report_core.specs.declared.refused.Place.{Place}
use Rattle.report_core.specs.declared.refused.Refused.TheVariants.{Overflow}
use Rattle.user_model.specs.Model.{ModelValue, empty_model}
use Rattle.user_model.specs.declared.edit.Edit.{Edit}
use Rattle.user_model.specs.declared.refusal.Refusal.{Refusal}

module _ (model : ModelValue) where
  -- ---- the dual is made, or an edit of it is refused

  module _ (edits listed : List Edit) (is : IsDual model (Ok edits))
      (makes : all_edited empty_model edits ≡ dual_of_model model)
      (limits : LimitsAlone empty_model edits) (same : listed ≡ edits) where
    leads_too : (gave : Result ModelValue Refusal) → after_edits empty_model listed ≡ gave
        → after_edits empty_model (dual_edits model) ≡ gave
    leads_too gave h = sym (ap (after_edits empty_model) (same ∙ is.1)) ∙ h

    dual_is : (new : ModelValue) → after_edits empty_model listed ≡ Ok new
        → new ≡ dual_of_model model
    dual_is new h =
        made_after edits empty_model new (sym (ap (after_edits empty_model) same) ∙ h) ∙ makes

    refused_edit : (gave : Result ModelValue Refusal) (answer : Answer)
        → after_edits empty_model listed ≡ gave → AnswersMade (λ m said. ⊥) gave answer
        → MakesDual (λ said. ⊥) model answer
    refused_edit (Ok new) answer h said = absurd said
    refused_edit (Err refusal) answer h said =
        full is.0 refusal (leads_too (Err refusal) h)
        (limits refusal (sym (ap (after_edits empty_model) same) ∙ h)) said

    pub dual_made : (result : Result StoredModel Answer)
        → MakesStored (after_edits empty_model listed) result
        → Duals model result
    dual_made (Ok stored) h = record {
      fits = is.0;
      leads = leads_too (Ok stored.model) h.0 ∙ ap Ok (dual_is stored.model h.0);
      is = dual_is stored.model h.0;
      settled = h.1;
    }
    dual_made (Err answer) h =
        λ not. refused_edit (after_edits empty_model listed) answer refl (h not)

  -- a number of it exceeds 128 bits
  pub dual_unfit : (place : Place) (told : Result Answer NoMemory) (answer : Answer)
      → IsUnfit model place → IfOk told (λ a. a ≡ refused (Overflow place))
      → answer ≡ result_unwrap_or told Memory → Duals model (Err answer)
  dual_unfit place (Ok a) answer at h is = λ not. unfit place at (is ∙ h)
  dual_unfit place (Err e) answer at h is = λ not. absurd (not is)

  -- ---- what is answered

  pub says_without : (setting : Setting) (task : Task) (answer : Answer) → Duals model (Err answer)
      → answer ≢ Memory → SaysOfDual setting task model answer
  says_without setting task answer h not = by answer (h not)
    where
      by : (said : Answer) → MakesDual (λ other. ⊥) model said → SaysOfDual setting task model said
      by said (made fits leads says) = absurd says
      by said (full fits refusal leads limit is) = full fits refusal leads limit is
      by said (unfit place at is) = unfit place at is

  pub says_with : (setting : Setting) (task : Task) (stored : StoredModel)
      (told : Result Answer NoMemory) (answer : Answer) → IsDualOf model stored
      → IfOk told (SaysDual model setting task) → answer ≡ result_unwrap_or told Memory
      → answer ≢ Memory → SaysOfDual setting task model answer
  says_with setting task stored (Ok a) answer h said is not =
      made h.fits h.leads (subst (SaysDual model setting task) (sym is) said)
  says_with setting task stored (Err e) answer h said is not = absurd (not is)
