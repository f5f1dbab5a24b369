-- What is answered to a command on a model, and what that says of the model.
--
--     SaysOfDual      what is answered, by what the dual, the model's limits, the bridging, the
--                     solver and the way back say: a refusal comes exactly where one of them is one
--     AreBestDuals    what printed duals are (dual_model): right, with the printed objective, than
--                     which no right duals have a better one
--     NoneRight       what `dual none` says: no duals are right
--     IsUnbounded     what `dual unbounded` says (certificates): the dual has a feasible point, and
--                     a ray along which its objective improves
use Rattle.std.specs.Prelude.{◌≡◌, List, Result, Ok, Err}
use Rattle.certificates.specs.Good.{IsUnbounded}
use Rattle.certificates.specs.declared.certificate.Certificate.{Certificate}
use Rattle.certificates.specs.declared.certificate.Certificate.TheVariants.{Infeasible, Optimal, Unbounded}
use Rattle.dual_command.specs.Text.{duals_text, file_line, none_text, unbounded_text}
use Rattle.dual_command.specs.declared.command.Task.{Task}
use Rattle.dual_command.specs.declared.command.Task.TheVariants.{Solve, Write}
use Rattle.dual_model.specs.Carried.{AreRightDuals}
use Rattle.dual_model.specs.DualOf.{dual_of_model}
use Rattle.dual_model.specs.Solved.{AreBestDuals}
use Rattle.dualization.specs.Answers.{CarriesPoint, CostsFit, IsUnfit}
use Rattle.dualization.specs.DualEdits.{dual_edits}
use Rattle.dualization.specs.declared.carrying.Carried.{Carried}
use Rattle.dualization.specs.declared.fault.DualFault.{DualFault}
use Rattle.dualization.specs.declared.fault.DualFault.TheVariants as dual
use Rattle.file_answers.specs.FileAnswers.{refused}
use Rattle.fresh_bridging.specs.TheRules.{Setting}
use Rattle.limit_laws.specs.Limits.{IsFull}
use Rattle.model_command.specs.Alone.{alone}
use Rattle.model_command.specs.Solved.{SaysSolved}
use Rattle.model_load.specs.Loads.{after_edits}
use Rattle.ratio_core.specs.Rational.{Rational}
use Rattle.report_core.specs.Refused.{refused_of}
use Rattle.report_core.specs.declared.answer.Answer.{Answer}
use Rattle.report_core.specs.declared.answer.Answer.TheVariants.{Printed}
use Rattle.report_core.specs.declared.refused.Place.{Place}
use Rattle.report_core.specs.declared.refused.Refused.TheVariants.{Overflow}
use Rattle.user_model.specs.Model.{ModelValue, empty_model}
use Rattle.user_model.specs.declared.refusal.Refusal.{Refusal}

-- no duals are right
abbrev pub NoneRight : ModelValue → Type 0
NoneRight model = (rows : List (List Rational)) (vars : List Rational)
    → ¬ (AreRightDuals model rows vars)

-- ---- what is answered to a solved dual

module _ (model : ModelValue) where
  -- the duals that an optimal point is carried to are the best
  abbrev pub SaysCarried : Rational → Result Carried DualFault → Answer → Type 0
  SaysCarried value (Ok carried) answer =
      AreBestDuals model value carried.rows carried.vars
      × (answer ≡ Printed (duals_text model value carried.rows carried.vars))
  SaysCarried value (Err (dual.Overflow place)) answer = answer ≡ refused (Overflow place)
  SaysCarried value (Err dual.Memory) answer = ⊥

  -- by the certificate of the dual
  abbrev pub SaysDualCertificate : Certificate → Answer → Type 0
  SaysDualCertificate (Optimal value x rows vars) answer =
      (carried : Result Carried DualFault) × CarriesPoint model x carried
      × SaysCarried value carried answer
  SaysDualCertificate (Infeasible gap rows vars) answer =
      NoneRight model × (answer ≡ Printed none_text)
  SaysDualCertificate (Unbounded x d) answer =
      IsUnbounded (dual_of_model model) x d × (answer ≡ Printed unbounded_text)

  -- to the dual as a model
  abbrev pub SaysDual : Setting → Task → Answer → Type 0
  SaysDual setting Write answer = answer ≡ Printed (file_line (dual_of_model model))
  SaysDual setting Solve answer =
      SaysSolved SaysDualCertificate (alone setting (dual_of_model model)) answer

-- ---- what is answered to a model

-- the dual is made, and this is said of it; or a limit of models is passed; or a number of the dual
-- exceeds 128 bits
pub data MakesDual (says : Answer → Type 0) (model : ModelValue) : Answer → Type 0 where
  made : {answer : Answer} → CostsFit model
      → after_edits empty_model (dual_edits model) ≡ Ok (dual_of_model model) → says answer
      → MakesDual says model answer
  full : {answer : Answer} → CostsFit model → (refusal : Refusal)
      → after_edits empty_model (dual_edits model) ≡ Err refusal → IsFull refusal
      → answer ≡ refused (refused_of refusal) → MakesDual says model answer
  unfit : {answer : Answer} (place : Place) → IsUnfit model place
      → answer ≡ refused (Overflow place) → MakesDual says model answer

abbrev pub SaysOfDual : Setting → Task → ModelValue → Answer → Type 0
SaysOfDual setting task model answer = MakesDual (SaysDual model setting task) model answer
