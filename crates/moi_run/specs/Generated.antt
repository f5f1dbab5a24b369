-- The run of a generated script: its lines are answered one after another, and the summary of the
-- answers is written.
use Rattle.std.specs.Prelude.{◌≡◌, ℕ, ◌⊎◌, Bool, true, false, List, [], ◌∷◌, Option, Some, None, nat_lt}
use Rattle.command_words.specs.declared.words.Invocation.{Invocation}
use Rattle.edit_engine.specs.Lines.{Prints}
use Rattle.edit_engine.specs.Script.{Machine, Steps}
use Rattle.generated_script.specs.ScriptNumbers.{ScriptNumbers}
use Rattle.generated_script.specs.Script.{script}
use Rattle.io_face.specs.Sink.{Adds, AddsPrefix}
use Rattle.moi_run.specs.Commands.{IfGenerate, generate_start}
use Rattle.moi_run.specs.Status.{IsEnded, has_refused}
use Rattle.moi_run.specs.declared.status.Status.{Status}
use Rattle.moi_run.specs.declared.status.Status.TheVariants as status
use Rattle.moi_run.specs.declared.stop.RunStop.{RunStop}
use Rattle.moi_run.specs.declared.stop.RunStop.TheVariants as stop
use Rattle.report_core.specs.declared.answer.Answer.{Answer}
use Rattle.report_core.specs.declared.answer.Answer.TheVariants.{Memory, ReadFault, TooLong}
use Rattle.run_summary.specs.Summary.{is_refusal, printed_of, summary_text, tally_of}
use Rattle.run_summary.specs.declared.tally.Tally.{Tally}

-- from a machine the lines, one after another, are given these answers, and this machine is left
pub data AnswersEach : Machine → List (List ℕ) → List Answer → Machine → Type 0 where
  none : {s : Machine} → AnswersEach s [] [] s
  next : {s middle new : Machine} {line : List ℕ} {lines : List (List ℕ)} {answer : Answer}
      {answers : List Answer} → Steps s line answer middle
      → Prints answer (printed_of answer) (is_refusal answer)
      → AnswersEach middle lines answers new
      → AnswersEach s (line ∷ lines) (answer ∷ answers) new

-- the lines of the script were answered, one of them was refused or not, and this machine is left;
-- and what is said of the summary
pub record WritesSummary (s : Machine) (numbers : ScriptNumbers) (refused : Bool) (new : Machine)
    (wrote : List ℕ → Type 0) : Type 0 where
  pub answers : List Answer
  pub each : AnswersEach s (script numbers) answers new
  pub any : refused ≡ nat_lt 0 (tally_of answers).refused
  pub written : wrote (summary_text (tally_of answers))

-- the same, or nothing was written
abbrev pub MayWriteSummary : Machine → ScriptNumbers → Machine → (List ℕ → Type 0) → Type 0
MayWriteSummary s numbers new wrote =
    wrote [] ⊎ ((refused : Bool) × WritesSummary s numbers refused new wrote)

-- ---- by the command

-- a command that generates a script wrote the summary, once the work ended
abbrev pub EndsWithSummary : Option Invocation → Status → Machine → Machine → (List ℕ → Type 0)
    → Type 0
EndsWithSummary said end s new wrote = IsEnded end
    → IfGenerate said (λ n. WritesSummary (generate_start s) n (has_refused end) new wrote)

-- however it ended, it wrote a part of the summary
abbrev pub BeginsSummary : Option Invocation → Machine → Machine → (List ℕ → Type 0) → Type 0
BeginsSummary said s new wrote =
    IfGenerate said (λ n. MayWriteSummary (generate_start s) n new wrote)

-- how the run of a generated script ended, by its status
abbrev pub GenerateOutcome : Status → ScriptNumbers → Machine → Machine → Option (List ℕ)
    → Option (List ℕ) → Type 0
GenerateOutcome status.Done numbers s new old written =
    WritesSummary s numbers false new (Adds old written)
GenerateOutcome status.SomeRefused numbers s new old written =
    WritesSummary s numbers true new (Adds old written)
GenerateOutcome status.Usage numbers s new old written = ⊥
GenerateOutcome status.ReadFault numbers s new old written = ⊥
GenerateOutcome status.WriteFault numbers s new old written =
    (refused : Bool) × WritesSummary s numbers refused new (AddsPrefix old written)
GenerateOutcome status.Memory numbers s new old written = (written ≡ old)
    ⊎ ((refused : Bool) × WritesSummary s numbers refused new (AddsPrefix old written))
GenerateOutcome status.TooLong numbers s new old written = ⊥

-- ---- parts of the run

-- how the writing of a summary ended
abbrev pub SummaryOutcome : Status → Tally → Option (List ℕ) → Option (List ℕ) → Type 0
SummaryOutcome status.Done tally old written =
    (nat_lt 0 tally.refused ≡ false) × Adds old written (summary_text tally)
SummaryOutcome status.SomeRefused tally old written =
    (nat_lt 0 tally.refused ≡ true) × Adds old written (summary_text tally)
SummaryOutcome status.Usage tally old written = ⊥
SummaryOutcome status.ReadFault tally old written = ⊥
SummaryOutcome status.WriteFault tally old written = AddsPrefix old written (summary_text tally)
SummaryOutcome status.Memory tally old written =
    (written ≡ old) ⊎ AddsPrefix old written (summary_text tally)
SummaryOutcome status.TooLong tally old written = ⊥

-- why an answer stops the work, if it does
abbrev pub stop_of_answer : Answer → Option RunStop
stop_of_answer ReadFault = Some stop.ReadFault
stop_of_answer TooLong = Some stop.TooLong
stop_of_answer Memory = Some stop.Memory
stop_of_answer answer = None
