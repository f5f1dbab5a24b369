-- What is answered to a model is no fault of the shelf.
use Rattle.std.specs.Prelude.{◌≡◌, None, Result, Ok, Err, refl}
use Rattle.certificates.specs.declared.certificate.Certificate.{Certificate}
use Rattle.file_command.specs.LoadingLaws.{SaysNoFault, same_fault, shelf_fault}
use Rattle.fresh_bridging.specs.TheRules.{Setting}
use Rattle.model_command.specs.Alone.{alone}
use Rattle.model_command.specs.SolvedLaws.{solved_plain}
use Rattle.model_load.specs.Loads.{after_edits}
use Rattle.relax_command.specs.Says.{SaysMade, SaysOfRelaxation, SaysRelaxedCertificate}
use Rattle.relaxation.specs.RelaxedEdits.{relaxed_edits}
use Rattle.report_core.specs.declared.answer.Answer.{Answer}
use Rattle.user_model.specs.Model.{ModelValue}
use Rattle.user_model.specs.declared.refusal.Refusal.{Refusal}

module _ (model : ModelValue) (answer : Answer) where
  certificate_plain : (c : Certificate) → SaysRelaxedCertificate model c answer
      → shelf_fault answer ≡ None
  certificate_plain c h = same_fault answer _ h.prints refl

  made_plain : (setting : Setting) (made : Result ModelValue Refusal)
      → SaysMade model setting made answer → shelf_fault answer ≡ None
  made_plain setting (Ok relaxed) h =
      solved_plain (SaysRelaxedCertificate model) answer certificate_plain (alone setting relaxed)
      h.1
  made_plain setting (Err refusal) h = same_fault answer _ h.1 refl

pub says_plain : (setting : Setting) → SaysNoFault (SaysOfRelaxation setting)
says_plain setting model answer h =
    made_plain model answer setting (after_edits model (relaxed_edits model)) h
