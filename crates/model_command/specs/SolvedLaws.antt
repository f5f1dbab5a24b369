-- What is answered to a model that is solved: by its solution, and never a fault of the shelf.
use Rattle.std.specs.Prelude.{◌≡◌, ℕ, None, Result, Ok, Err, IfOk}
use Rattle.std.proofs.Common.{subst, sym}
use Rattle.std.proofs.lemmas.Result.{IfOk-weaker}
use Rattle.cache_layer.specs.CacheState.{CacheState}
use Rattle.cache_layer.specs.declared.fault.AttachFault.{AttachFault}
use Rattle.cache_layer.specs.declared.fault.OptFault.{OptFault}
use Rattle.certificates.specs.declared.certificate.Certificate.{Certificate}
use Rattle.file_command.specs.LoadingLaws.{same_fault, shelf_fault}
use Rattle.lists.specs.declared.memory.Memory.{Memory as NoMemory}
use Rattle.model_command.specs.Solved.{SaysSolution, SaysSolved, Solves, SolvesAfter, solution_of}
use Rattle.model_command.specs.TellingLaws.{attach_fault, optimize_fault}
use Rattle.model_command.specs.declared.solving.Solution.{Solution}
use Rattle.model_command.specs.declared.solving.Solution.TheVariants.{Certified, Refused}
use Rattle.report_core.specs.declared.answer.Answer.{Answer}

-- by the solution, where memory may run out
pub says_solution : {given solution : Solution} (says : Certificate → Answer → Type 0)
    (told : Result Answer NoMemory) (old new : CacheState) → Solves old new given
    → given ≡ solution → IfOk told (SaysSolution says solution) → IfOk told (SaysSolved says old)
says_solution {given} {solution} says told old new solves is =
    IfOk-weaker told (SaysSolution says solution) (SaysSolved says old)
    (λ answer said. (new, solution, subst (Solves old new) is solves, said))

-- ---- no fault of the shelf

-- where there is no certificate
abbrev IsPlain : Solution → Type 0
IsPlain (Certified certificate) = Unit {0}
IsPlain (Refused answer) = shelf_fault answer ≡ None

given_plain : (given : Result Certificate OptFault) → IsPlain (solution_of given)
given_plain (Ok certificate) = tt
given_plain (Err fault) = optimize_fault fault

after_plain : (made : Result ℕ AttachFault) (s : CacheState) (solution : Solution)
    → SolvesAfter made s solution → IsPlain solution
after_plain (Ok leaves) s solution h = subst IsPlain (sym h.2) (given_plain h.0)
after_plain (Err fault) s solution h = subst IsPlain (sym h) (attach_fault fault)

-- where what is said of a certificate is none
module _ (says : Certificate → Answer → Type 0) (answer : Answer)
    (plain : (c : Certificate) → says c answer → shelf_fault answer ≡ None) where
  solution_plain : (solution : Solution) → IsPlain solution → SaysSolution says solution answer
      → shelf_fault answer ≡ None
  solution_plain (Certified certificate) none said = plain certificate said
  solution_plain (Refused refusal) none said = same_fault answer refusal said none

  pub solved_plain : (s : CacheState) → SaysSolved says s answer → shelf_fault answer ≡ None
  solved_plain s said =
      solution_plain said.1 (after_plain said.2.0 said.0 said.1 said.2.2) said.3
