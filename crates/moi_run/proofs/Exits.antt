-- What is said where the work stops, by the reason.
use Rattle.std.proofs.Common.{◌≡◌, ℕ, ◌≤◌, Bool, true, false, List, refl, sym, ◌∙◌, ap, subst, inl, inr, Option, IfSome, Result, Ok, Err, arith}
use Rattle.std.specs.Prelude.{if◌then◌else◌}
use Rattle.std.specs.Str.Lines.{lines}
use Rattle.edit_engine.specs.Held.{SessionValue as Session}
use Rattle.edit_engine.specs.Lines.{heard, says_quit}
use Rattle.edit_engine.specs.LinesLaws.{stops_by}
use Rattle.edit_engine.specs.Script.{Answered, Machine, moved}
use Rattle.io_face.specs.Fault.{HasFaulted}
use Rattle.io_face.specs.FaultLaws.{HasFaulted-within}
use Rattle.io_face.specs.Shelf.{FilesByName}
use Rattle.io_face.specs.Sink.{Adds}
use Rattle.io_face.specs.Told.{Told, told_by}
use Rattle.moi_run.specs.Answering.{Hears, HearsBy, StopsAtFile, StopsAtWrite, WritesBy, is_quit, is_refused}
use Rattle.moi_run.specs.Input.{AnswersTaken, AnswersWithinLimits, Ends, PassesLimit}
use Rattle.moi_run.specs.Run.{FetchFails, HasCause, RunOutcome}
use Rattle.moi_run.specs.Status.{IsEnded, has_refused, status_of, stop_of_read}
use Rattle.moi_run.specs.RunState.{IsStill, MovesByLine, RunState, run_state_of}
use Rattle.moi_run.specs.declared.reply.Reply.{Reply}
use Rattle.moi_run.specs.declared.reply.Reply.TheVariants as reply
use Rattle.moi_run.specs.declared.status.Status.{Status}
use Rattle.moi_run.specs.declared.status.Status.TheVariants as status
use Rattle.moi_run.specs.declared.status.Status.TheVariants.{Done, Memory, SomeRefused, Usage, WriteFault}
use Rattle.moi_run.specs.declared.stop.RunStop.{RunStop}
use Rattle.moi_run.specs.declared.stop.RunStop.TheVariants as stop
use Rattle.report_core.specs.declared.answer.Answer.{Answer}
use Rattle.report_core.specs.declared.answer.Answer.TheVariants.{ReadFault, TooLong}
use Rattle.line_reader.specs.ReadingLaws.{told_always, told_weaker}
use Rattle.line_reader.specs.declared.line_reader.ReadStop.{ReadStop}
use Rattle.line_reader.specs.declared.line_reader.ReadStop.TheVariants as read

-- ---- counts of faults

pub at_least : (old new : ℕ) → new ≡ old → old ≤ new
at_least old new same = omega (arith, same)

-- ---- the shelf

pub told_same : (files files' : Option FilesByName) (sure sure' : Bool) → files' ≡ files
    → sure' ≡ sure → told_by files' sure' ≡ told_by files sure
told_same files files' sure sure' f s =
    ap (λ (o : Option FilesByName). told_by o sure') f ∙ ap (told_by files) s

pub fails_within : (told told' : Told) (first old new : ℕ) → told' ≡ told → first ≤ old
    → FetchFails told' old new → FetchFails told first new
fails_within told told' first old new same low fails = subst (λ t. FetchFails t first new) same
    record {
      counted = HasFaulted-within first old new new low (omega arith) fails.counted;
      name = fails.name;
      missing = fails.missing;
    }

pub heard_told : (result : Result Reply RunStop) (told told' : Told) (s new : Session)
    (asked asked' : Option (List (List ℕ))) (line : List ℕ) (old written : Option (List ℕ))
    → told' ≡ told
    → HearsBy result (run_state_of s told' asked) line (run_state_of new told' asked') old written
    → HearsBy result (run_state_of s told asked) line (run_state_of new told asked') old written
heard_told result told told' s new asked asked' line old written same heard =
    subst (λ t. HearsBy result (run_state_of s t asked) line (run_state_of new t asked') old written) same
    heard

-- a line that was answered, by whether its reply is a refusal
pub heard_whole : (given : Reply) (told told' : Told) (s new : Session)
    (asked asked' : Option (List (List ℕ))) (line : List ℕ) (old written : Option (List ℕ))
    (was : Bool) → told' ≡ told → was ≡ is_refused given
    → HearsBy (Ok given) (run_state_of s told' asked) line (run_state_of new told' asked') old written
    → Hears (run_state_of s told asked) line was (run_state_of new told asked') (Adds old written)
    × (is_quit given ≡ says_quit line)
heard_whole given told told' s new asked asked' line old written was same is heard =
    let came = heard_told (Ok given) told told' s new asked asked' line old written same heard in (
      subst
          (λ b. Hears (run_state_of s told asked) line b (run_state_of new told asked') (Adds old written))
          (sym is) came.0,
      came.1,
    )

-- the machine is as it was where the shelf stopped the work
pub stays_at_fault : (s new : RunState) (line : List ℕ) → MovesByLine s line ReadFault new
    → IsStill s new
stays_at_fault s new line moves =
    let steps = moves.steps in record {
      machine = steps.1
          ∙ ap (λ t. moved s.machine t s.machine.group)
          (stops_by s.machine new.machine line ReadFault steps).kept;
      calls = omega (arith, moves.rises, moves.few);
    }

pub stays_at_limit : (s new : RunState) (line : List ℕ) → MovesByLine s line TooLong new
    → IsStill s new
stays_at_limit s new line moves =
    let steps = moves.steps in record {
      machine = steps.1
          ∙ ap (λ t. moved s.machine t s.machine.group)
          (stops_by s.machine new.machine line TooLong steps).kept;
      calls = omega (arith, moves.rises, moves.few);
    }

-- a line whose answer is a fault of the shelf
pub line_fails : (result : Result Reply RunStop) (s new : Machine) (line : List ℕ) (answer : Answer)
    (old written : Option (List ℕ)) (faults faults' : ℕ)
    → Answered s line answer new → WritesBy result answer old written
    → (answer ≡ ReadFault → HasFaulted faults faults') → result ≡ Err stop.ReadFault
    → FetchFails s.shelf faults faults'
line_fails result s new line answer old written faults faults' answered wrote cause is =
    let by : WritesBy (Err stop.ReadFault) answer old written =
    subst (λ r. WritesBy r answer old written) is wrote in
    let stopped = stops_by s new line ReadFault
    (subst (λ a. Answered s line a new) by.0 answered) in
    record { counted = cause by.0; name = stopped.name; missing = stopped.gave }

-- ---- the work ended

-- what holds by whether a line was refused holds by the status
pub at_end : (P : Status → Type 0) (Q : Bool → Type 0) → (Q false → P Done)
    → (Q true → P SomeRefused) → (refused : Bool) (answer : Status)
    → answer ≡ (if refused then SomeRefused else Done) → Q refused → P answer
at_end P Q none some true answer is h = subst P (sym is) (some h)
at_end P Q none some false answer is h = subst P (sym is) (none h)

-- and the other way
pub when_ended : (P : Status → Type 0) (Q : Bool → Type 0) → (P Done → Q false)
    → (P SomeRefused → Q true) → (end : Status) → IsEnded end → P end → Q (has_refused end)
when_ended P Q none some Done ended h = none h
when_ended P Q none some SomeRefused ended h = some h
when_ended P Q none some _ ended h = absurd ended

pub outcome_at_end : (source shelf : Type 0) (refused : Bool) (answer : Status)
    (all left : Option (List ℕ)) (start s : RunState) (wrote : List ℕ → Type 0)
    → answer ≡ (if refused then SomeRefused else Done)
    → IfSome all (λ bytes. Ends bytes left refused start s wrote)
    → IfSome all (λ bytes. RunOutcome source shelf answer bytes left start s wrote)
outcome_at_end source shelf refused answer all left start s wrote =
    at_end (λ a. IfSome all (λ bytes. RunOutcome source shelf a bytes left start s wrote))
    (λ b. IfSome all (λ bytes. Ends bytes left b start s wrote)) (λ h. h)
    (λ h. h) refused answer

pub no_cause_at_end : (source shelf sink : Type 0) (refused : Bool) (answer : Status)
    → answer ≡ (if refused then SomeRefused else Done) → HasCause source shelf sink answer
no_cause_at_end source shelf sink true answer is = subst (HasCause source shelf sink) (sym is) tt
no_cause_at_end source shelf sink false answer is = subst (HasCause source shelf sink) (sym is) tt

pub no_usage_at_end : (refused : Bool) (answer : Status)
    → answer ≡ (if refused then SomeRefused else Done) → answer ≡ Usage → ⊥
no_usage_at_end true answer is usage = cc
no_usage_at_end false answer is usage = cc

-- ---- reading stopped

-- what holds by the reason holds by the status
at_read : (P : Status → Type 0) (reason : ReadStop) (answer : Status)
    → answer ≡ status_of (stop_of_read reason) → (reason ≡ read.ReadFault → P status.ReadFault)
    → (reason ≡ read.TooLong → P status.TooLong) → P Memory → P answer
at_read P read.ReadFault answer is fault long memory = subst P (sym is) (fault refl)
at_read P read.TooLong answer is fault long memory = subst P (sym is) (long refl)
at_read P read.Memory answer is fault long memory = subst P (sym is) memory

pub outcome_at_read : (source shelf : Type 0) (reason : ReadStop) (answer : Status)
    (all left : Option (List ℕ)) (start s : RunState) (wrote : List ℕ → Type 0)
    → answer ≡ status_of (stop_of_read reason)
    → (reason ≡ read.ReadFault → source)
    → (reason ≡ read.ReadFault → IfSome all (λ bytes. AnswersTaken bytes left start s wrote))
    → (reason ≡ read.TooLong → IfSome all (λ bytes. PassesLimit bytes × AnswersWithinLimits bytes
    start s wrote))
    → IfSome all (λ bytes. RunOutcome source shelf answer bytes left start s wrote)
outcome_at_read source shelf reason answer all left start s wrote is cause fault long =
    at_read (λ a. IfSome all (λ bytes. RunOutcome source shelf a bytes left start s wrote)) reason
    answer is (λ e. told_weaker _ _ all (λ bytes taken. inl (cause e, taken)) (fault e))
    (λ e. told_weaker _ _ all (λ bytes passes. inl passes) (long e))
    (told_always _ all (λ bytes. tt))

pub cause_at_read : (source shelf sink : Type 0) (reason : ReadStop) (answer : Status)
    → answer ≡ status_of (stop_of_read reason) → (reason ≡ read.ReadFault → source)
    → HasCause source shelf sink answer
cause_at_read source shelf sink reason answer is cause =
    at_read (HasCause source shelf sink) reason answer is (λ e. inl (cause e)) (λ _. tt) tt

-- ---- the answer to a line stopped it

-- what holds by the reason holds by the status
at_stop : (P : Status → Type 0) (reason : RunStop) (answer : Status) → answer ≡ status_of reason
    → (reason ≡ stop.ReadFault → P status.ReadFault)
    → (reason ≡ stop.WriteFault → P WriteFault)
    → (reason ≡ stop.TooLong → P status.TooLong) → P Memory → P answer
at_stop P stop.ReadFault answer is fault write long memory = subst P (sym is) (fault refl)
at_stop P stop.WriteFault answer is fault write long memory = subst P (sym is) (write refl)
at_stop P stop.TooLong answer is fault write long memory = subst P (sym is) (long refl)
at_stop P stop.Memory answer is fault write long memory = subst P (sym is) memory

pub outcome_at_stop : (source shelf : Type 0) (reason : RunStop) (answer : Status)
    (all left : Option (List ℕ)) (start s : RunState) (wrote : List ℕ → Type 0)
    → answer ≡ status_of reason
    → (reason ≡ stop.ReadFault → shelf)
    → (reason ≡ stop.ReadFault → IfSome all (λ bytes. StopsAtFile start (heard (lines bytes))
    ReadFault s wrote))
    → (reason ≡ stop.WriteFault → IfSome all (λ bytes. StopsAtWrite start (heard (lines bytes))
    s wrote))
    → (reason ≡ stop.TooLong → IfSome all (λ bytes. StopsAtFile start (heard (lines bytes))
    TooLong s wrote))
    → IfSome all (λ bytes. RunOutcome source shelf answer bytes left start s wrote)
outcome_at_stop source shelf reason answer all left start s wrote is cause fault write long =
    at_stop (λ a. IfSome all (λ bytes. RunOutcome source shelf a bytes left start s wrote)) reason
    answer is (λ e. told_weaker _ _ all (λ bytes stops. inr (cause e, stops)) (fault e))
    write
    (λ e. told_weaker _ _ all (λ bytes stops. inr stops) (long e))
    (told_always _ all (λ bytes. tt))

pub cause_at_stop : (source shelf sink : Type 0) (reason : RunStop) (answer : Status)
    → answer ≡ status_of reason → (reason ≡ stop.ReadFault → shelf)
    → (reason ≡ stop.WriteFault → sink) → HasCause source shelf sink answer
cause_at_stop source shelf sink reason answer is fetch write =
    at_stop (HasCause source shelf sink) reason answer is (λ e. inr (fetch e)) write (λ _. tt) tt

pub no_usage_at_stop : (reason : RunStop) (answer : Status) → answer ≡ status_of reason
    → answer ≡ Usage → ⊥
no_usage_at_stop stop.ReadFault answer is usage = cc
no_usage_at_stop _ answer is usage = cc

-- the work didn't end
pub no_end_at_stop : (reason : RunStop) (answer : Status) → answer ≡ status_of reason
    → IsEnded answer
    → ⊥
no_end_at_stop reason answer is ended = by reason (subst IsEnded is ended)
  where
    by : (why : RunStop) → IsEnded (status_of why) → ⊥
    by stop.ReadFault ended = ended
    by stop.WriteFault ended = ended
    by stop.TooLong ended = ended
    by stop.Memory ended = ended

-- which reason a status tells
pub reason_by : (reason : RunStop) (answer : Status) → answer ≡ status_of reason → (told : RunStop)
    → answer ≡ status_of told → reason ≡ told
reason_by stop.ReadFault answer is stop.ReadFault same = refl
reason_by stop.WriteFault answer is stop.WriteFault same = refl
reason_by stop.Memory answer is stop.Memory same = refl
reason_by stop.TooLong answer is stop.TooLong same = refl
reason_by _ answer is _ same = cc

-- ---- the work goes on

pub goes_on : (given : Reply) → (given ≡ reply.Quit → ⊥) → is_quit given ≡ false
goes_on reply.Accepted goes = refl
goes_on reply.Refused goes = refl
goes_on reply.Quit goes = absurd (goes refl)
