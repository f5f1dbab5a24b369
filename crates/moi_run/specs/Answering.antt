-- What is written for lines and for answers.
--
--     WritesAnswers    lines were answered, and their text was written
--     BeginsAnswers    some of the first were, and what was written begins their text
--     StopsAtFile      some of the first were, and at the next the shelf stopped the work
--     StopsAtWrite     some of the first were, and in the answer to the next the sink did
use Rattle.std.specs.Prelude.{◌≡◌, ◌≢◌, ◌≤◌, ℕ, ◌⊎◌, Bool, true, false, List, ◌∷◌, ◌++◌, length, take, Option, Result, Ok, Err}
use Rattle.edit_engine.specs.Lines.{Answers, Prints, says_quit}
use Rattle.edit_engine.specs.LinesLaws.{answers_quit}
use Rattle.io_face.specs.Sink.{Adds, AddsPrefix}
use Rattle.moi_run.specs.RunState.{IsStill, MovesByLine, MovesThrough, RunState}
use Rattle.moi_run.specs.declared.reply.Reply.{Reply}
use Rattle.moi_run.specs.declared.reply.Reply.TheVariants as reply
use Rattle.moi_run.specs.declared.status.Status.{Status}
use Rattle.moi_run.specs.declared.status.Status.TheVariants as status
use Rattle.moi_run.specs.declared.stop.RunStop.{RunStop}
use Rattle.moi_run.specs.declared.stop.RunStop.TheVariants as stop
use Rattle.report_core.specs.declared.answer.Answer.{Answer}
use Rattle.report_core.specs.declared.answer.Answer.TheVariants.{ReadFault, TooLong}

-- ---- lines

-- from a machine the lines were answered, one of them was refused or not, and this machine is left;
-- and their text was written. They took few calls, and asked for their files
pub record WritesAnswers (s : RunState) (lines : List (List ℕ)) (refused : Bool) (new : RunState)
    (wrote : List ℕ → Type 0) : Type 0 where
  pub text : List ℕ
  pub answers : Answers s.machine lines text refused new.machine
  pub written : wrote text
  pub moves : MovesThrough s lines text new

-- some of the first lines were answered, and what was written begins their text. They left the
-- session's machine, unless memory ran out
pub record BeginsAnswers (s : RunState) (lines : List (List ℕ)) (end : Status) (new : RunState)
    (wrote : List ℕ → Type 0) : Type 0 where
  pub done : List (List ℕ)
  pub more : List (List ℕ)
  pub front : lines ≡ done ++ more
  pub refused : Bool
  pub after : RunState
  pub answered : WritesAnswers s done refused after wrote
  pub stands : end ≢ status.Memory → IsStill after new

-- the lines before one were answered, and at that one, which asks for a file, the shelf stopped the
-- work: its answer is this
pub record StopsAtFile (s : RunState) (lines : List (List ℕ)) (stopped : Answer) (new : RunState)
    (wrote : List ℕ → Type 0) : Type 0 where
  pub done : List (List ℕ)
  pub line : List ℕ
  pub more : List (List ℕ)
  pub front : lines ≡ done ++ line ∷ more
  pub refused : Bool
  pub after : RunState
  pub answered : WritesAnswers s done refused after wrote
  pub moves : MovesByLine after line stopped new

-- ---- one line

-- a line was answered, it was refused or not, and a machine is left; and what is said of its text
pub record Hears (s : RunState) (line : List ℕ) (refused : Bool) (new : RunState)
    (wrote : List ℕ → Type 0) : Type 0 where
  pub answer : Answer
  pub text : List ℕ
  pub moves : MovesByLine s line answer new
  pub prints : Prints answer text refused
  pub written : wrote text

-- the lines before one were answered, and their text was written; of the answer to that one a part
-- was, and no line behind it changed anything
pub record StopsAtWrite (s : RunState) (lines : List (List ℕ)) (new : RunState)
    (wrote : List ℕ → Type 0) : Type 0 where
  pub done : List (List ℕ)
  pub line : List ℕ
  pub more : List (List ℕ)
  pub front : lines ≡ done ++ line ∷ more
  pub refused : Bool
  pub after : RunState
  pub text : List ℕ
  pub answers : Answers s.machine done text refused after.machine
  pub moves : MovesThrough s done text after
  pub was : Bool
  pub hears : Hears after line was new
      (λ answer. (k : ℕ) × (k ≤ length answer) × wrote (text ++ take k answer))

abbrev pub is_refused : Reply → Bool
is_refused reply.Refused = true
is_refused reply.Accepted = false
is_refused reply.Quit = false

abbrev pub is_quit : Reply → Bool
is_quit reply.Quit = true
is_quit reply.Accepted = false
is_quit reply.Refused = false

-- what became of a line, by how its answer came out
abbrev pub HearsBy : Result Reply RunStop → RunState → List ℕ → RunState → Option (List ℕ)
    → Option (List ℕ) → Type 0
HearsBy (Ok reply) s line new old written =
    Hears s line (is_refused reply) new (Adds old written) × (is_quit reply ≡ says_quit line)
HearsBy (Err stop.WriteFault) s line new old written =
    (refused : Bool) × Hears s line refused new (AddsPrefix old written)
HearsBy (Err stop.ReadFault) s line new old written =
    MovesByLine s line ReadFault new × (written ≡ old)
HearsBy (Err stop.TooLong) s line new old written = MovesByLine s line TooLong new × (written ≡ old)
HearsBy (Err stop.Memory) s line new old written = (written ≡ old)
    ⊎ ((refused : Bool) × (after : RunState) × Hears s line refused after (AddsPrefix old written))

-- ---- one answer

-- the answer is a text, a refusal or not, and what is said of the text
pub record PrintsText (answer : Answer) (refused : Bool) (wrote : List ℕ → Type 0) : Type 0 where
  pub text : List ℕ
  pub prints : Prints answer text refused
  pub written : wrote text

-- what became of an answer, by how writing it came out
abbrev pub WritesBy : Result Reply RunStop → Answer → Option (List ℕ) → Option (List ℕ) → Type 0
WritesBy (Ok reply) answer old written =
    PrintsText answer (is_refused reply) (Adds old written)
    × (is_quit reply ≡ answers_quit answer)
WritesBy (Err stop.WriteFault) answer old written =
    (refused : Bool) × PrintsText answer refused (AddsPrefix old written)
WritesBy (Err stop.ReadFault) answer old written = (answer ≡ ReadFault) × (written ≡ old)
WritesBy (Err stop.TooLong) answer old written = (answer ≡ TooLong) × (written ≡ old)
WritesBy (Err stop.Memory) answer old written = (written ≡ old)
    ⊎ ((refused : Bool) × PrintsText answer refused (AddsPrefix old written))
