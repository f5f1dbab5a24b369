-- How a model is solved: a solver is attached, and optimises once.
--
--     Solves            the state that this leaves, and a certificate or why there is none
--     IsGoodSolution    a certificate is good for the model
--     SaysSolved        what is answered to the model, by what is said of a certificate
use Rattle.std.specs.Prelude.{◌≡◌, ℕ, Result, Ok, Err}
use Rattle.cache_layer.specs.Answers.{IsAttached}
use Rattle.cache_layer.specs.Outcome.{IsOptimized}
use Rattle.cache_layer.specs.CacheState.{CacheState}
use Rattle.cache_layer.specs.declared.fault.AttachFault.{AttachFault}
use Rattle.cache_layer.specs.declared.fault.OptFault.{OptFault}
use Rattle.certificates.specs.Good.{Good}
use Rattle.certificates.specs.declared.certificate.Certificate.{Certificate}
use Rattle.model_command.specs.Telling.{attach_fault_answer, optimize_fault_answer}
use Rattle.model_command.specs.declared.solving.Solution.{Solution}
use Rattle.model_command.specs.declared.solving.Solution.TheVariants.{Certified, Refused}
use Rattle.report_core.specs.declared.answer.Answer.{Answer}
use Rattle.user_model.specs.Model.{ModelValue}

-- the most pivots of an optimise
abbrev pub pivots : ℕ
pivots = 100000

-- ---- what solving gives

-- by an optimise
abbrev pub solution_of : Result Certificate OptFault → Solution
solution_of (Ok certificate) = Certified certificate
solution_of (Err fault) = Refused (optimize_fault_answer fault)

-- in a state with a solver attached
abbrev pub SolvesAttached : CacheState → Solution → Type 0
SolvesAttached s solution =
    (given : Result Certificate OptFault) × IsOptimized s pivots given
    × (solution ≡ solution_of given)

-- after one was attached, or was not
abbrev pub SolvesAfter : Result ℕ AttachFault → CacheState → Solution → Type 0
SolvesAfter (Ok leaves) s solution = SolvesAttached s solution
SolvesAfter (Err fault) s solution = solution ≡ Refused (attach_fault_answer fault)

-- in any state, and the state after it
abbrev pub Solves : CacheState → CacheState → Solution → Type 0
Solves old new solution =
    (made : Result ℕ AttachFault) × IsAttached old made new × SolvesAfter made new solution

abbrev pub IsGoodSolution : ModelValue → Solution → Type 0
IsGoodSolution model (Certified certificate) = Good model certificate
IsGoodSolution model (Refused answer) = Unit {0}

-- ---- what is answered

module _ (says : Certificate → Answer → Type 0) where
  abbrev pub SaysSolution : Solution → Answer → Type 0
  SaysSolution (Certified certificate) answer = says certificate answer
  SaysSolution (Refused refusal) answer = answer ≡ refusal

  abbrev pub SaysSolved : CacheState → Answer → Type 0
  SaysSolved s answer =
      (after : CacheState) × (solution : Solution) × Solves s after solution
      × SaysSolution solution answer
