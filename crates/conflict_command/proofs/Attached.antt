-- A model without its objective, to which a solver is attached, or is not.
use Rattle.std.proofs.Common.{◌≡◌, ◌∙◌, ℕ, ◌+◌, ◌≤◌, Bool, true, false, Option, Some, None, ap, length, refl, subst, sym, Ok, Err}
use Rattle.std.specs.Prelude.{IfOk, Result}
use Rattle.std.proofs.lemmas.Option.{none-some}
use Rattle.std.proofs.lemmas.Result.{IfOk-weaker}
use Rattle.cache_layer.specs.Answers.{IsAttached, IsEdited}
use Rattle.cache_layer.specs.CacheState.{CacheState, attached}
use Rattle.cache_layer.specs.declared.fault.AttachFault.{AttachFault}
use Rattle.cache_layer.specs.declared.fault.EditFault.{EditFault}
use Rattle.cache_layer.specs.declared.fault.EditFault.TheVariants.{Memory, Overflow, Refused, Unsupported}
use Rattle.conflict_command.specs.Says.{SaysOfConflict, SaysSought, bare}
use Rattle.fresh_bridging.specs.TheRules.{Setting}
use Rattle.lists.specs.declared.memory.Memory.{Memory as NoMemory}
use Rattle.model_command.specs.Telling.{attach_fault_answer}
use Rattle.model_conflict.specs.Steps.{CanWalk}
use Rattle.report_core.specs.declared.answer.Answer.{Answer}
use Rattle.user_model.specs.Edited.{edited}
use Rattle.user_model.specs.Limits.{LAST_NUMBER}
use Rattle.user_model.specs.Model.{ModelValue}
use Rattle.user_model.specs.Refusals.{first_refusal}
use Rattle.user_model.specs.declared.edit.Edit.TheVariants as edit
use Rattle.user_model.specs.declared.objective.Objective.TheVariants.{Feasibility}

not_both : (b : Bool) → b ≡ false → b ≡ true → ⊥
not_both b is is_not = cc

-- ---- the objective is dropped

never_refused : (model : ModelValue) → first_refusal model edit.Feasibility ≡ None
unfolding first_refusal
never_refused model = refl

module _ (old new : CacheState) (detached : old.attached ≡ false) where
  pub only_memory : (fault : EditFault) → IsEdited old edit.Feasibility (Err fault) new
      → fault ≡ Memory
  only_memory (Refused refusal) h =
      absurd (none-some refusal (sym (never_refused old.model) ∙ h.0))
  only_memory (Unsupported kind) h = absurd (not_both old.attached detached h.1.0)
  only_memory (Overflow place) h = absurd (not_both old.attached detached h.1.0)
  only_memory Memory h = refl

  pub made_bare : (count : Option ℕ) → IsEdited old edit.Feasibility (Ok count) new
      → new ≡ bare old.setting old.model
  unfolding edited
  made_bare None h =
      h.1.1
      ∙ ap (λ a. record {
        model = record old.model { objective = Feasibility };
        setting = old.setting;
        attached = a;
      }) detached
  made_bare (Some n) h = absurd (not_both old.attached detached h.1.0)

-- ---- a solver is attached, or is not

module _ (setting : Setting) (model : ModelValue) (s after : CacheState) (is : s ≡ bare setting model)
  where
    pub can_walk : (n : ℕ) → model.next.row + length model.rows ≤ LAST_NUMBER + 1
        → IsAttached s (Ok n) after → CanWalk after (length after.model.rows)
    can_walk n room h =
        subst (λ (t : CacheState). CanWalk t (length t.model.rows))
        (sym (h.2 ∙ ap attached is))
        (record { attached = refl; bare = refl; room = room })

    module _ (told : Result Answer NoMemory) where
      pub says_sought : (n : ℕ) → IsAttached s (Ok n) after → IfOk told (SaysSought after)
          → IfOk told (SaysOfConflict setting model)
      says_sought n h =
          IfOk-weaker told (SaysSought after) (SaysOfConflict setting model)
          (λ answer said. (Ok n, after, subst (λ t. IsAttached t (Ok n) after) is h, said))

      pub says_unattached : (why : AttachFault) → IsAttached s (Err why) after
          → IfOk told (λ answer. answer ≡ attach_fault_answer why)
          → IfOk told (SaysOfConflict setting model)
      says_unattached why h =
          IfOk-weaker told (λ answer. answer ≡ attach_fault_answer why) (SaysOfConflict setting model)
          (λ answer said. (Err why, after, subst (λ t. IsAttached t (Err why) after) is h, said))
