-- What is answered to a model, and what that says of it.
--
--     SaysOfRelaxation    what is answered, by what the limits of models, the bridging and the
--                         solver say of the model's relaxation: a refusal comes exactly where one
--                         of them refuses
--     IsLeastMissed       what `relaxed V` says (relaxed_model): the point meets the hard rows, and
--                         the numbers that are printed are its violations of the soft rows, in
--                         total V. No point that meets the hard rows has a smaller total
use Rattle.std.specs.Prelude.{◌≡◌, ◌≢◌, Result, Ok, Err}
use Rattle.certificates.specs.declared.certificate.Certificate.{Certificate}
use Rattle.file_answers.specs.FileAnswers.{refused}
use Rattle.fresh_bridging.specs.TheRules.{Setting}
use Rattle.limit_laws.specs.Limits.{IsFull}
use Rattle.model_command.specs.Alone.{alone}
use Rattle.model_command.specs.Solved.{SaysSolved}
use Rattle.model_load.specs.Loads.{after_edits}
use Rattle.model_store.specs.Store.{StoredModel}
use Rattle.relax_command.specs.Text.{relaxation_text}
use Rattle.relaxation.specs.Answers.{IsRelaxedFrom, ReadsRelaxation, ShowsRelaxation}
use Rattle.relaxation.specs.RelaxedEdits.{relaxed_edits}
use Rattle.relaxation.specs.declared.reading.Relaxation.{Relaxation}
use Rattle.relaxed_model.specs.Relaxed.{relaxed_model}
use Rattle.report_core.specs.Refused.{refused_of}
use Rattle.report_core.specs.declared.answer.Answer.{Answer}
use Rattle.report_core.specs.declared.answer.Answer.TheVariants.{Memory, Printed}
use Rattle.user_model.specs.Model.{ModelValue}
use Rattle.user_model.specs.declared.refusal.Refusal.{Refusal}

module _ (model : ModelValue) where
  -- what the certificate of the relaxation says of the model, shown, and printed in its names
  pub record SaysRelaxedCertificate (certificate : Certificate) (answer : Answer) : Type 0 where
    pub relaxation : Relaxation
    pub reads : ReadsRelaxation model certificate relaxation
    pub shows : ShowsRelaxation model relaxation
    pub prints : answer ≡ Printed (relaxation_text model relaxation)

  -- the edits lead to the relaxation, or exceed a limit
  abbrev pub SaysMade : Setting → Result ModelValue Refusal → Answer → Type 0
  SaysMade setting (Ok relaxed) answer =
      (relaxed ≡ relaxed_model model)
      × SaysSolved SaysRelaxedCertificate (alone setting relaxed) answer
  SaysMade setting (Err refusal) answer = IsFull refusal × (answer ≡ refused (refused_of refusal))

abbrev pub SaysOfRelaxation : Setting → ModelValue → Answer → Type 0
SaysOfRelaxation setting model answer =
    SaysMade model setting (after_edits model (relaxed_edits model)) answer

-- ---- what the code says

-- a model was made its relaxation, or this is answered
abbrev pub Relaxes : StoredModel → Result Unit Answer → StoredModel → Type 0
Relaxes old (Ok done) new =
    IsRelaxedFrom old.model new.model
    × (after_edits old.model (relaxed_edits old.model) ≡ Ok new.model) × (new.parked ≡ old.parked)
Relaxes old (Err answer) new =
    answer ≢ Memory → (setting : Setting) → SaysOfRelaxation setting old.model answer
