-- What is answered to a model is no fault of the shelf.
use Rattle.std.specs.Prelude.{◌≡◌, None, Result, Ok, Err, refl}
use Rattle.certificates.specs.declared.certificate.Certificate.{Certificate}
use Rattle.certificates.specs.declared.certificate.Certificate.TheVariants.{Infeasible, Optimal, Unbounded}
use Rattle.dual_command.specs.Says.{SaysCarried, SaysDual, SaysDualCertificate, SaysOfDual, full, made, unfit}
use Rattle.dual_command.specs.declared.command.Task.{Task}
use Rattle.dual_command.specs.declared.command.Task.TheVariants.{Solve, Write}
use Rattle.dual_model.specs.DualOf.{dual_of_model}
use Rattle.dualization.specs.declared.carrying.Carried.{Carried}
use Rattle.dualization.specs.declared.fault.DualFault.{DualFault}
use Rattle.dualization.specs.declared.fault.DualFault.TheVariants as dual
use Rattle.file_command.specs.LoadingLaws.{SaysNoFault, same_fault, shelf_fault}
use Rattle.fresh_bridging.specs.TheRules.{Setting}
use Rattle.model_command.specs.Alone.{alone}
use Rattle.model_command.specs.SolvedLaws.{solved_plain}
use Rattle.ratio_core.specs.Rational.{Rational}
use Rattle.report_core.specs.declared.answer.Answer.{Answer}
use Rattle.user_model.specs.Model.{ModelValue}

module _ (model : ModelValue) (answer : Answer) where
  carried_plain : (value : Rational) (carried : Result Carried DualFault)
      → SaysCarried model value carried answer → shelf_fault answer ≡ None
  carried_plain value (Ok carried) h = same_fault answer _ h.1 refl
  carried_plain value (Err (dual.Overflow place)) h = same_fault answer _ h refl
  carried_plain value (Err dual.Memory) h = absurd h

  certificate_plain : (c : Certificate) → SaysDualCertificate model c answer
      → shelf_fault answer ≡ None
  certificate_plain (Optimal value x rows vars) h = carried_plain value h.0 h.2
  certificate_plain (Infeasible gap rows vars) h = same_fault answer _ h.1 refl
  certificate_plain (Unbounded x d) h = same_fault answer _ h.1 refl

  dual_plain : (setting : Setting) (task : Task) → SaysDual model setting task answer
      → shelf_fault answer ≡ None
  dual_plain setting Write h = same_fault answer _ h refl
  dual_plain setting Solve h =
      solved_plain (SaysDualCertificate model) answer certificate_plain
      (alone setting (dual_of_model model)) h

pub says_plain : (setting : Setting) (task : Task) → SaysNoFault (SaysOfDual setting task)
says_plain setting task model answer (made fits leads h) =
    dual_plain model answer setting task h
says_plain setting task model answer (full fits refusal leads limit is) = same_fault answer _ is refl
says_plain setting task model answer (unfit place at is) = same_fault answer _ is refl
