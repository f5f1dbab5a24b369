-- The dual of a model as a model, or what is answered without one.
use Rattle.std.specs.Prelude.{◌≡◌, ◌≢◌, [], Result, Ok, Err}
use Rattle.dual_command.specs.Says.{MakesDual}
use Rattle.dual_model.specs.DualOf.{dual_of_model}
use Rattle.dualization.specs.Answers.{CostsFit}
use Rattle.dualization.specs.DualEdits.{dual_edits}
use Rattle.model_load.specs.Loads.{after_edits}
use Rattle.model_store.specs.Store.{StoredModel}
use Rattle.report_core.specs.declared.answer.Answer.{Answer}
use Rattle.report_core.specs.declared.answer.Answer.TheVariants.{Memory}
use Rattle.user_model.specs.Model.{ModelValue, empty_model}

-- each number fits, the edits lead to the dual, and nothing of it waits
pub record IsDualOf (model : ModelValue) (stored : StoredModel) : Type 0 where
  pub fits : CostsFit model
  pub leads : after_edits empty_model (dual_edits model) ≡ Ok (dual_of_model model)
  pub is : stored.model ≡ dual_of_model model
  pub settled : stored.parked ≡ []

abbrev pub Duals : ModelValue → Result StoredModel Answer → Type 0
Duals model (Ok stored) = IsDualOf model stored
Duals model (Err answer) = answer ≢ Memory → MakesDual (λ said. ⊥) model answer
