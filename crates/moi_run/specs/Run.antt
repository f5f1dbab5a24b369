-- How runs end.
use Rattle.std.specs.Prelude.{◌≡◌, ◌≢◌, ℕ, ◌⊎◌, Bool, true, false, List, [], Option, Some, None, Err, IfSome, IsTrue}
use Rattle.std.specs.Str.Lines.{lines}
use Rattle.command_words.specs.declared.words.Invocation.{Invocation}
use Rattle.command_words.specs.declared.words.Invocation.TheVariants.{Check, Generate, Plan, Run, Solve}
use Rattle.command_words.specs.declared.words.Setup.{Setup}
use Rattle.edit_engine.specs.Lines.{heard}
use Rattle.certificate_check.specs.Verdict.{AsksModelAndCertificate, IsVerdict}
use Rattle.io_face.specs.Fault.{HasFaulted}
use Rattle.io_face.specs.Shelf.{AsksFor, Gives}
use Rattle.io_face.specs.Sink.{Adds, AddsPrefix}
use Rattle.io_face.specs.Told.{Told}
use Rattle.io_face.specs.declared.shelf.FetchFault.TheVariants.{Failed}
use Rattle.moi_run.specs.Answering.{BeginsAnswers, PrintsText, StopsAtFile, StopsAtWrite, WritesAnswers}
use Rattle.moi_run.specs.Commands.{AsksInVain, AsksTooMuch, HasReadFault, IfCheck, input_for, lines_for, setup_for, solve_lines, start_by, start_for}
use Rattle.moi_run.specs.Input.{AnswersTaken, AnswersWithinLimits, Ends, IsInputWithinLimits, IsReadToEnd, PassesLimit}
use Rattle.moi_run.specs.Status.{IsEnded, has_refused}
use Rattle.moi_run.specs.RunState.{RunState}
use Rattle.moi_run.specs.declared.status.Status.{Status}
use Rattle.moi_run.specs.declared.status.Status.TheVariants as status
use Rattle.report_core.specs.declared.answer.Answer.{Answer}
use Rattle.report_core.specs.declared.answer.Answer.TheVariants.{ReadFault, TooLong}

-- ---- of lines

-- how the run of an input ended, by its status; a fault is the source's or the shelf's
abbrev pub RunOutcome : Type 0 → Type 0 → Status → List ℕ → Option (List ℕ) → RunState → RunState
    → (List ℕ → Type 0) → Type 0
RunOutcome source shelf status.Done bytes left s new wrote = Ends bytes left false s new wrote
RunOutcome source shelf status.SomeRefused bytes left s new wrote = Ends bytes left true s new wrote
RunOutcome source shelf status.Usage bytes left s new wrote = ⊥
RunOutcome source shelf status.ReadFault bytes left s new wrote =
    (source × AnswersTaken bytes left s new wrote)
    ⊎ (shelf × StopsAtFile s (heard (lines bytes)) ReadFault new wrote)
RunOutcome source shelf status.WriteFault bytes left s new wrote =
    StopsAtWrite s (heard (lines bytes)) new wrote
RunOutcome source shelf status.Memory bytes left s new wrote = Unit {0}
RunOutcome source shelf status.TooLong bytes left s new wrote =
    (PassesLimit bytes × AnswersWithinLimits bytes s new wrote)
    ⊎ StopsAtFile s (heard (lines bytes)) TooLong new wrote

-- how the run of given lines ended
abbrev pub EachOutcome : Status → List (List ℕ) → RunState → RunState → (List ℕ → Type 0) → Type 0
EachOutcome status.Done lines s new wrote = WritesAnswers s lines false new wrote
EachOutcome status.SomeRefused lines s new wrote = WritesAnswers s lines true new wrote
EachOutcome status.Usage lines s new wrote = ⊥
EachOutcome status.ReadFault lines s new wrote = StopsAtFile s lines ReadFault new wrote
EachOutcome status.WriteFault lines s new wrote = StopsAtWrite s lines new wrote
EachOutcome status.Memory lines s new wrote = Unit {0}
EachOutcome status.TooLong lines s new wrote = StopsAtFile s lines TooLong new wrote

-- how given lines were run, after the session was told the options
pub record RunsEach (lines : List (List ℕ)) (setup : Setup) (end : Status) (s new : RunState)
    (wrote begun : List ℕ → Type 0) : Type 0 where
  pub outcome : EachOutcome end lines (start_by (Some setup) s) new wrote
  pub prefix : BeginsAnswers (start_by (Some setup) s) lines end new begun
  pub pivots : IsEnded end → new.machine.pivots ≡ setup.pivots

-- ---- causes

-- the shelf counted a fault, and there is a name that it may not have
pub record FetchFails (shelf : Told) (old new : ℕ) : Type 0 where
  pub counted : HasFaulted old new
  pub name : List ℕ
  pub missing : IsTrue shelf.sure → Gives shelf.files name (Err Failed)

-- the status has this cause
abbrev pub HasCause : Type 0 → Type 0 → Type 0 → Status → Type 0
HasCause source shelf sink status.ReadFault = source ⊎ shelf
HasCause source shelf sink status.WriteFault = sink
HasCause source shelf sink status.Done = Unit {0}
HasCause source shelf sink status.SomeRefused = Unit {0}
HasCause source shelf sink status.Usage = Unit {0}
HasCause source shelf sink status.Memory = Unit {0}
HasCause source shelf sink status.TooLong = Unit {0}

-- ---- of commands

-- what is written where reading stopped the work: the answers of all lines that were taken, or of
-- those before the one at which the shelf stopped it; of `check` nothing, and the verdict tells at
-- which file
abbrev pub AtReadFault : Told → Option Invocation → Type 0 → Type 0 → Option (List ℕ)
    → Option (List ℕ) → RunState → RunState → (List ℕ → Type 0) → Type 0
AtReadFault told (Some (Run setup)) source shelf left left' s new wrote = IfSome left (λ bytes.
    (source × AnswersTaken bytes left' s new wrote)
    ⊎ (shelf × StopsAtFile s (heard (lines bytes)) ReadFault new wrote))
AtReadFault told (Some (Solve setup model)) source shelf left left' s new wrote =
    StopsAtFile s (solve_lines model) ReadFault new wrote
AtReadFault told (Some (Check model certificate)) source shelf left left' s new wrote =
    IsVerdict told model certificate ReadFault × wrote []
AtReadFault told (Some (Plan setup)) source shelf left left' s new wrote = ⊥
AtReadFault told (Some (Generate numbers)) source shelf left left' s new wrote = ⊥
AtReadFault told None source shelf left left' s new wrote = ⊥

-- the same where a limit did
abbrev pub AtLimit : Told → Option Invocation → Option (List ℕ) → RunState → RunState
    → (List ℕ → Type 0) → Type 0
AtLimit told (Some (Run setup)) left s new wrote = IfSome left (λ bytes.
    (PassesLimit bytes × AnswersWithinLimits bytes s new wrote)
    ⊎ StopsAtFile s (heard (lines bytes)) TooLong new wrote)
AtLimit told (Some (Solve setup model)) left s new wrote =
    StopsAtFile s (solve_lines model) TooLong new wrote
AtLimit told (Some (Check model certificate)) left s new wrote =
    IsVerdict told model certificate TooLong × wrote []
AtLimit told (Some (Plan setup)) left s new wrote = ⊥
AtLimit told (Some (Generate numbers)) left s new wrote = ⊥
AtLimit told None left s new wrote = ⊥

-- what is written where the sink stopped the work: the answers of all lines before one, and a part
-- of that to it
abbrev pub AtWriteFault : Option Invocation → Option (List ℕ) → RunState → RunState
    → (List ℕ → Type 0) → Type 0
AtWriteFault said left s new wrote =
    IfSome (lines_for said left) (λ lines. StopsAtWrite s lines new wrote)

-- what is too long
abbrev pub HasTooLong : Option Invocation → Option (List ℕ) → Told → Type 0
HasTooLong (Some (Run setup)) left shelf =
    IfSome left (λ bytes. PassesLimit bytes ⊎ AsksTooMuch (Some (Run setup)) (Some bytes) shelf)
HasTooLong said left shelf = AsksTooMuch said left shelf

-- the verdict on the files was given, a refusal or not; and what is said of its text
pub record WritesVerdict (shelf : Told) (model certificate : List ℕ) (refused : Bool)
    (wrote : List ℕ → Type 0) : Type 0 where
  pub answer : Answer
  pub verdict : IsVerdict shelf model certificate answer
  pub printed : PrintsText answer refused wrote

-- how `check` ended, by its status
abbrev pub CheckOutcome : Status → Told → ℕ → ℕ → List ℕ → List ℕ → Option (List ℕ)
    → Option (List ℕ) → Type 0
CheckOutcome status.Done shelf faults faults' model certificate old new =
    WritesVerdict shelf model certificate false (Adds old new)
CheckOutcome status.SomeRefused shelf faults faults' model certificate old new =
    WritesVerdict shelf model certificate true (Adds old new)
CheckOutcome status.Usage shelf faults faults' model certificate old new = ⊥
CheckOutcome status.ReadFault shelf faults faults' model certificate old new =
    IsVerdict shelf model certificate ReadFault × HasFaulted faults faults' × (new ≡ old)
CheckOutcome status.WriteFault shelf faults faults' model certificate old new =
    (refused : Bool) × WritesVerdict shelf model certificate refused (AddsPrefix old new)
CheckOutcome status.Memory shelf faults faults' model certificate old new = (new ≡ old)
    ⊎ ((refused : Bool) × WritesVerdict shelf model certificate refused (AddsPrefix old new))
CheckOutcome status.TooLong shelf faults faults' model certificate old new =
    IsVerdict shelf model certificate TooLong × (new ≡ old)

-- how a command ran, in the terms of the clauses of `run`
pub record Runs (said : Option Invocation) (end : Status) (left left' : Option (List ℕ))
    (shelf : Told) (source fetch : Type 0) (s new : RunState) (wrote begun : List ℕ → Type 0)
    : Type 0 where
  pub text : IsEnded end → IfSome (lines_for said left)
      (λ lines. WritesAnswers (start_for said s) lines (has_refused end) new wrote)
  pub verdict : IsEnded end → IfCheck said
      (λ model certificate. WritesVerdict shelf model certificate (has_refused end) wrote)
  pub pivots : IsEnded end → IfSome (setup_for said) (λ setup. new.machine.pivots ≡ setup.pivots)
  pub to_the_end : IsEnded end
      → IfSome (input_for said left) (λ bytes. IsReadToEnd bytes left')
  pub within_limits : IsEnded end → IfSome (input_for said left) IsInputWithinLimits
  pub prefix : IfSome (lines_for said left)
      (λ lines. BeginsAnswers (start_for said s) lines end new begun)
  pub asks : end ≢ status.Memory → IfCheck said
      (λ model certificate. AsksModelAndCertificate shelf model certificate (AsksFor s.asked new.asked))
  pub verdict_prefix : IfCheck said (λ model certificate. begun []
      ⊎ ((refused : Bool) × WritesVerdict shelf model certificate refused begun))
  pub read_fault : end ≡ status.ReadFault
      → HasReadFault said source (fetch × (IsTrue shelf.sure → AsksInVain said left shelf))
  pub at_read_fault : end ≡ status.ReadFault
      → AtReadFault shelf said source fetch left left' (start_for said s) new wrote
  pub at_write_fault : end ≡ status.WriteFault
      → AtWriteFault said left (start_for said s) new wrote
  pub too_long : end ≡ status.TooLong → HasTooLong said left shelf
  pub at_limit : end ≡ status.TooLong → AtLimit shelf said left (start_for said s) new wrote
