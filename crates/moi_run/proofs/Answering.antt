-- What an answer that was written says of its line.
use Rattle.std.proofs.Common.{◌≡◌, ◌≢◌, ℕ, Bool, List, sym, ap, ◌∙◌, subst, inl, inr, Option, Result, Ok, Err}
use Rattle.edit_engine.specs.Lines.{Prints, accepted, quit, refusal, silent}
use Rattle.edit_engine.specs.LinesLaws.{answers_quit, quit_is_said}
use Rattle.io_face.specs.Sink.{Adds, AddsPrefix}
use Rattle.io_face.specs.declared.sink.SinkFault.{SinkFault}
use Rattle.io_face.specs.declared.sink.SinkFault.TheVariants as fault
use Rattle.moi_run.specs.Answering.{Hears, HearsBy, PrintsText, WritesBy, is_refused}
use Rattle.moi_run.specs.RunState.{MovesByLine, RunState}
use Rattle.moi_run.specs.declared.reply.Reply.{Reply}
use Rattle.moi_run.specs.Status.{stop_of_sink}
use Rattle.moi_run.specs.declared.stop.RunStop.{RunStop}
use Rattle.moi_run.specs.declared.stop.RunStop.TheVariants as stop
use Rattle.report_core.specs.declared.answer.Answer.{Answer}
use Rattle.report_core.specs.declared.answer.Answer.TheVariants.{ReadFault, TooLong}
use Rattle.report_core.specs.declared.answer.Answer.TheVariants.{Memory as NoMemory}
use Rattle.std.specs.Prelude.{OnOk}

-- an answer that prints is neither running out of memory nor the shelf's fault
pub prints_memory : {answer : Answer} {text : List ℕ} {was : Bool} → Prints answer text was
    → answer ≢ NoMemory
prints_memory silent e = cc
prints_memory accepted e = cc
prints_memory refusal e = cc
prints_memory quit e = cc

pub prints_fault : {answer : Answer} {text : List ℕ} {was : Bool} → Prints answer text was
    → answer ≢ ReadFault
prints_fault silent e = cc
prints_fault accepted e = cc
prints_fault refusal e = cc
prints_fault quit e = cc

hears_of : (s new : RunState) (line : List ℕ) (answer : Answer) (refused : Bool)
    (wrote : List ℕ → Type 0) → (answer ≢ NoMemory → MovesByLine s line answer new)
    → PrintsText answer refused wrote → Hears s line refused new wrote
hears_of s new line answer refused wrote moves printed = record {
  answer = answer;
  text = printed.text;
  moves = moves (prints_memory printed.prints);
  prints = printed.prints;
  written = printed.written;
}

-- what became of the line, from its answer and what became of that
pub line_heard : (result : Result Reply RunStop) (s new : RunState) (line : List ℕ) (answer : Answer)
    (old written : Option (List ℕ)) → (answer ≢ NoMemory → MovesByLine s line answer new)
    → WritesBy result answer old written
    → HearsBy result s line new old written
line_heard (Ok given) s new line answer old written moves wrote = (
  hears_of s new line answer (is_refused given) (Adds old written) moves wrote.0,
  wrote.1
      ∙ sym (quit_is_said s.machine new.machine line answer
      (moves (prints_memory wrote.0.prints)).steps),
)
line_heard (Err stop.WriteFault) s new line answer old written moves wrote =
    (wrote.0, hears_of s new line answer wrote.0 (AddsPrefix old written) moves wrote.1)
line_heard (Err stop.ReadFault) s new line answer old written moves wrote =
    let is : answer ≡ ReadFault = wrote.0 in
    (subst (λ a. MovesByLine s line a new) is (moves (λ e. cc)), wrote.1)
line_heard (Err stop.TooLong) s new line answer old written moves wrote =
    let is : answer ≡ TooLong = wrote.0 in
    (subst (λ a. MovesByLine s line a new) is (moves (λ e. cc)), wrote.1)
line_heard (Err stop.Memory) s new line answer old written moves (inl same) = inl same
line_heard (Err stop.Memory) s new line answer old written moves (inr begun) =
    inr (begun.0, new, hears_of s new line answer begun.0 (AddsPrefix old written) moves begun.1)

-- the shelf counted no fault where the answer was written
pub heard_sound : (result : Result Reply RunStop) (answer : Answer) (old written : Option (List ℕ))
    (faults faults' : ℕ) → WritesBy result answer old written
    → (answer ≢ ReadFault → faults' ≡ faults) → OnOk result (faults' ≡ faults)
heard_sound (Ok given) answer old written faults faults' wrote sound =
    sound (prints_fault wrote.0.prints)
heard_sound (Err reason) answer old written faults faults' wrote sound = tt

-- ---- one answer

-- that prints a text
prints_text : (answer said : Answer) (text seen : List ℕ) (refused : Bool) (wrote : List ℕ → Type 0)
    → answer ≡ said → Prints said text refused → seen ≡ text → wrote seen
    → PrintsText answer refused wrote
prints_text answer said text seen refused wrote is prints same written =
    record {
      text = text;
      prints = subst (λ a. Prints a text refused) (sym is) prints;
      written = subst wrote same written;
    }

-- the text was written whole
pub wrote_whole : (answer said : Answer) (text seen : List ℕ) (refused quits : Bool)
    (old new : Option (List ℕ)) → answer ≡ said → Prints said text refused
    → quits ≡ answers_quit said
    → seen ≡ text → Adds old new seen → PrintsText answer refused (Adds old new)
    × (quits ≡ answers_quit answer)
wrote_whole answer said text seen refused quits old new is prints ends same written = (
  prints_text answer said text seen refused (Adds old new) is prints same written,
  ends
      ∙ sym (ap answers_quit is),
)

-- or in part
pub cut_short : (reason : SinkFault) (given : RunStop) (answer said : Answer) (text seen : List ℕ)
    (refused : Bool) (old new : Option (List ℕ)) → given ≡ stop_of_sink reason → answer ≡ said
    → Prints said text refused → seen ≡ text → AddsPrefix old new seen
    → WritesBy (Err given) answer old new
cut_short reason given answer said text seen refused old new from is prints same written =
    subst (λ e. WritesBy (Err e) answer old new) (sym from) (by reason)
  where
    part : PrintsText answer refused (AddsPrefix old new)
    part = prints_text answer said text seen refused (AddsPrefix old new) is prints same written

    by : (why : SinkFault) → WritesBy (Err (stop_of_sink why)) answer old new
    by fault.Failed = (refused, part)
    by fault.Memory = inr (refused, part)
