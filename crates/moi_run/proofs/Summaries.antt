-- The lines of a generated script, answered one after another, and their summary.
use Rattle.std.proofs.Common.{◌≡◌, ◌≢◌, ℕ, ◌+◌, ◌*◌, ◌^◌, ◌<◌, ◌≤◌, Bool, true, false, List, [], ◌∷◌, ◌++◌, refl, sym, ap, ◌∙◌, subst, inl, inr, Option, Some, None, arith, lt-ltb, le-ltb, true≢false}
use Rattle.std.specs.Prelude.{map, nat_lt, if◌then◌else◌}
use Rattle.std.specs.List.{range_with_len}
use Rattle.std.proofs.lemmas.Bool.{cases_lt, cond-false, cond-true}
use Rattle.std.proofs.lemmas.List.FromFn.{map-range_with_len_more}
use Rattle.command_words.specs.declared.words.Invocation.{Invocation}
use Rattle.edit_engine.specs.Lines.{Prints, accepted, is_load, quit, refusal, says_load, silent}
use Rattle.edit_engine.specs.LinesLaws.{stops_by}
use Rattle.edit_engine.specs.Script.{Answered, Machine, Steps}
use Rattle.generated_script.specs.ScriptNumbers.{ScriptNumbers}
use Rattle.generated_script.specs.Parts.{line_count}
use Rattle.generated_script.specs.Script.{ScriptFrom, after_line, line_at, script_line, state_before}
use Rattle.io_face.specs.Sink.{Adds, AddsPrefix}
use Rattle.io_face.specs.SinkLaws.{Adds-empty}
use Rattle.io_face.specs.declared.sink.SinkFault.{SinkFault}
use Rattle.io_face.specs.declared.sink.SinkFault.TheVariants as fault
use Rattle.moi_run.specs.Generated.{AnswersEach, BeginsSummary, GenerateOutcome, MayWriteSummary, SummaryOutcome, WritesSummary, next, none, stop_of_answer}
use Rattle.moi_run.specs.Status.{IsEnded, has_refused, status_of, stop_of_sink}
use Rattle.moi_run.specs.declared.status.Status.{Status}
use Rattle.moi_run.specs.declared.status.Status.TheVariants as status
use Rattle.moi_run.specs.declared.stop.RunStop.{RunStop}
use Rattle.moi_run.specs.declared.stop.RunStop.TheVariants as stop
use Rattle.moi_run.proofs.Exits.{when_ended}
use Rattle.moi_run.proofs.Quiet.{line_loads_nothing}
use Rattle.moi_run.proofs.Running.{always_generate}
use Rattle.moi_run.proofs.Written.{begun_whole}
use Rattle.report_core.specs.declared.answer.Answer.{Answer}
use Rattle.report_core.specs.declared.answer.Answer.TheVariants.{Memory, Printed, Quit, ReadFault, Refused, Silent, TooLong}
use Rattle.run_summary.specs.Summary.{is_refusal, one_more, printed_of, summary_text, tally_of}
use Rattle.run_summary.specs.SummaryLaws.{counted_more}
use Rattle.run_summary.specs.declared.tally.Tally.{Tally}

-- ---- one line more

abbrev pub first_lines : ScriptNumbers → ℕ → List (List ℕ)
first_lines n k = map (line_at n) (range_with_len 0 k)

each_more : {s middle new : Machine} {lines : List (List ℕ)} {answers : List Answer}
    (line : List ℕ) (answer : Answer) → AnswersEach s lines answers middle
    → Steps middle line answer new → Prints answer (printed_of answer) (is_refusal answer)
    → AnswersEach s (lines ++ line ∷ []) (answers ++ answer ∷ []) new
each_more line answer none steps prints = next steps prints none
each_more line answer (next first printed more) steps prints =
    next first printed (each_more line answer more steps prints)

prints_of : (answer : Answer) → stop_of_answer answer ≡ None
    → Prints answer (printed_of answer) (is_refusal answer)
prints_of Silent is = silent
prints_of (Printed text) is = accepted
prints_of (Refused text) is = refusal
prints_of Quit is = quit
prints_of ReadFault is = cc
prints_of TooLong is = cc
prints_of Memory is = cc

steps_of : (s new : Machine) (line : List ℕ) (answer : Answer) → stop_of_answer answer ≡ None
    → Answered s line answer new → Steps s line answer new
steps_of s new line Memory is answered = cc
steps_of s new line Silent is answered = answered
steps_of s new line (Printed text) is answered = answered
steps_of s new line (Refused text) is answered = answered
steps_of s new line Quit is answered = answered
steps_of s new line ReadFault is answered = answered
steps_of s new line TooLong is answered = answered

-- an answer that goes on
line_more : (n : ScriptNumbers) (k : ℕ) (start s new : Machine) (answers : List Answer)
    (answer : Answer) → AnswersEach start (first_lines n k) answers s
    → Answered s (line_at n k) answer new → stop_of_answer answer ≡ None
    → AnswersEach start (first_lines n (k + 1)) (answers ++ answer ∷ []) new
line_more n k start s new answers answer each answered goes =
    subst (λ lines. AnswersEach start lines (answers ++ answer ∷ []) new)
    (sym (map-range_with_len_more (line_at n) 0 k k (omega arith)))
    (each_more (line_at n k) answer each (steps_of s new (line_at n k) answer goes answered) (prints_of answer goes))

-- ---- an answer that stops the work

-- where no file is asked for, it is that memory ran out
stopped_by_memory : (s new : Machine) (line : List ℕ) (answer : Answer) (why : RunStop)
    → stop_of_answer answer ≡ Some why → Answered s line answer new → says_load line ≡ false
    → why ≡ stop.Memory
unfolding says_load
stopped_by_memory s new line Memory why is answered quiet = cc
stopped_by_memory s new line ReadFault why is answered quiet =
    absurd (true≢false (sym (ap is_load (stops_by s new line ReadFault answered).said_so) ∙ quiet))
stopped_by_memory s new line TooLong why is answered quiet =
    absurd (true≢false (sym (ap is_load (stops_by s new line TooLong answered).said_so) ∙ quiet))
stopped_by_memory s new line Silent why is answered quiet = cc
stopped_by_memory s new line (Printed text) why is answered quiet = cc
stopped_by_memory s new line (Refused text) why is answered quiet = cc
stopped_by_memory s new line Quit why is answered quiet = cc

memory_is : (end : Status) (why : RunStop) → end ≡ status_of why → why ≡ stop.Memory
    → end ≡ status.Memory
memory_is end why is memory = is ∙ ap status_of memory

pub without_memory : (end : Status) (n : ScriptNumbers) (s new : Machine) (old : Option (List ℕ))
    → end ≡ status.Memory → GenerateOutcome end n s new old old
without_memory end n s new old is =
    subst (λ e. GenerateOutcome e n s new old old) (sym is) (inl refl)

pub no_fault_of_memory : (end : Status) → end ≡ status.Memory → end ≢ status.WriteFault
no_fault_of_memory end is other = cc

pub no_usage_of_memory : (end : Status) → end ≡ status.Memory → end ≢ status.Usage
no_usage_of_memory end is other = cc

-- ---- the summary

summed : (n : ScriptNumbers) (s new : Machine) (answers : List Answer) (refused : Bool)
    (wrote : List ℕ → Type 0) → AnswersEach s (first_lines n (line_count n)) answers new
    → refused ≡ nat_lt 0 (tally_of answers).refused → wrote (summary_text (tally_of answers))
    → WritesSummary s n refused new wrote
summed n s new answers refused wrote each any written =
    record { answers = answers; each = each; any = any; written = written }

summed_by : (end : Status) (n : ScriptNumbers) (s new : Machine) (answers : List Answer)
    (old written : Option (List ℕ)) → AnswersEach s (first_lines n (line_count n)) answers new
    → SummaryOutcome end (tally_of answers) old written → GenerateOutcome end n s new old written
summed_by status.Done n s new answers old written each outcome =
    summed n s new answers false (Adds old written) each (sym outcome.0) outcome.1
summed_by status.SomeRefused n s new answers old written each outcome =
    summed n s new answers true (Adds old written) each (sym outcome.0) outcome.1
summed_by status.Usage n s new answers old written each outcome = absurd outcome
summed_by status.ReadFault n s new answers old written each outcome = absurd outcome
summed_by status.WriteFault n s new answers old written each outcome =
    (_, summed n s new answers _ (AddsPrefix old written) each refl outcome)
summed_by status.Memory n s new answers old written each (inl same) = inl same
summed_by status.Memory n s new answers old written each (inr begun) =
    inr (_, summed n s new answers _ (AddsPrefix old written) each refl begun)
summed_by status.TooLong n s new answers old written each outcome = absurd outcome

script_summed : (end : Status) (n : ScriptNumbers) (k : ℕ) (s new : Machine) (answers : List Answer)
    (tally : Tally) (old written : Option (List ℕ)) → AnswersEach s (first_lines n k) answers new
    → tally ≡ tally_of answers → k ≡ line_count n → SummaryOutcome end tally old written
    → GenerateOutcome end n s new old written
script_summed end n k s new answers tally old written each tallied all outcome =
    summed_by end n s new answers old written
    (subst (λ j. AnswersEach s (first_lines n j) answers new) all each)
    (subst (λ t. SummaryOutcome end t old written) tallied outcome)

-- ---- the summary is written, or a part of it

pub summary_ended : (refused : Bool) (end : Status) (tally : Tally) (text : List ℕ)
    (old written : Option (List ℕ)) → end ≡ (if refused then status.SomeRefused else status.Done)
    → refused ≡ nat_lt 0 tally.refused → text ≡ summary_text tally → Adds old written text
    → SummaryOutcome end tally old written
summary_ended true end tally text old written is any whole added =
    subst (λ e. SummaryOutcome e tally old written) (sym is)
    (sym any, subst (Adds old written) whole added)
summary_ended false end tally text old written is any whole added =
    subst (λ e. SummaryOutcome e tally old written) (sym is)
    (sym any, subst (Adds old written) whole added)

pub summary_cut : (reason : SinkFault) (given : RunStop) (end : Status) (tally : Tally)
    (text : List ℕ) (old written : Option (List ℕ)) → given ≡ stop_of_sink reason
    → end ≡ status_of given → text ≡ summary_text tally → AddsPrefix old written text
    → SummaryOutcome end tally old written
summary_cut reason given end tally text old written from is whole begun =
    subst (λ e. SummaryOutcome e tally old written) (sym (is ∙ ap status_of from)) (by reason)
  where
    part : AddsPrefix old written (summary_text tally)
    part = subst (AddsPrefix old written) whole begun

    by : (why : SinkFault) → SummaryOutcome (status_of (stop_of_sink why)) tally old written
    by fault.Failed = part
    by fault.Memory = inr part

-- the status of a fault of the sink is its own
pub write_fault_of : (reason : SinkFault) (given : RunStop) (end : Status) → given ≡ stop_of_sink reason
    → end ≡ status_of given → end ≡ status.WriteFault → reason ≡ fault.Failed
write_fault_of fault.Failed given end from is write = refl
write_fault_of fault.Memory given end from is write =
    let same : end ≡ status.Memory = is ∙ ap status_of from in cc

pub no_usage_of_sink : (reason : SinkFault) (given : RunStop) (end : Status)
    → given ≡ stop_of_sink reason → end ≡ status_of given → end ≢ status.Usage
no_usage_of_sink fault.Failed given end from is usage =
    let same : end ≡ status.WriteFault = is ∙ ap status_of from in cc
no_usage_of_sink fault.Memory given end from is usage =
    let same : end ≡ status.Memory = is ∙ ap status_of from in cc

pub no_write_fault_at_end : (refused : Bool) (end : Status)
    → end ≡ (if refused then status.SomeRefused else status.Done) → end ≢ status.WriteFault
no_write_fault_at_end true end is write = cc
no_write_fault_at_end false end is write = cc

-- ---- one turn of the loop

-- the first lines were answered, and this is their tally
pub record SumsUp (n : ScriptNumbers) (k : ℕ) (start s : Machine) (tally : Tally) : Type 0 where
  pub answers : List Answer
  pub each : AnswersEach start (first_lines n k) answers s
  pub tallied : tally ≡ tally_of answers

sums_nothing : (n : ScriptNumbers) (start : Machine) (tally : Tally) → tally ≡ tally_of []
    → SumsUp n 0 start start tally
sums_nothing n start tally is = record { answers = []; each = none; tallied = is }

sums_begin : (n : ScriptNumbers) (lines : ScriptFrom) (start : Machine) (tally : Tally)
    → lines ≡ record { numbers = n; next = 0 } → tally ≡ tally_of []
    → SumsUp n lines.next start start tally
sums_begin n lines start tally first is =
    subst (λ k. SumsUp n k start start tally) (sym (ap (λ (s : ScriptFrom). s.next) first))
    (sums_nothing n start tally is)

sums_more : (n : ScriptNumbers) (k : ℕ) (start s new : Machine) (tally tally' : Tally)
    (line : List ℕ) (answer : Answer) → SumsUp n k start s tally → line ≡ line_at n k
    → Answered s line answer new → stop_of_answer answer ≡ None → tally' ≡ one_more tally answer
    → SumsUp n (k + 1) start new tally'
sums_more n k start s new tally tally' line answer sums is answered goes counted = record {
  answers = sums.answers ++ answer ∷ [];
  each = line_more n k start s new sums.answers answer sums.each
      (subst (λ l. Answered s l answer new) is answered) goes;
  tallied = counted ∙ ap (λ t. one_more t answer) sums.tallied
      ∙ counted_more sums.answers answer;
}

sums_end : (end : Status) (n : ScriptNumbers) (k : ℕ) (s new : Machine) (tally : Tally)
    (old written : Option (List ℕ)) → SumsUp n k s new tally → k ≡ line_count n
    → SummaryOutcome end tally old written → GenerateOutcome end n s new old written
sums_end end n k s new tally old written sums all outcome =
    script_summed end n k s new sums.answers tally old written sums.each sums.tallied all outcome

-- what the next line is
some_line : (n : ScriptNumbers) (k : ℕ) (line : List ℕ) → Some line ≡ script_line n k
    → (k < line_count n) × (line ≡ line_at n k)
some_line n k line is = elim (cases_lt k (line_count n)) [
  | inl low ↦ (
    low,
    some_is line (line_at n k) (is ∙ cond-true (nat_lt k (line_count n)) (Some (line_at n k)) None
        (lt-ltb k (line_count n) low)),
  )
  | inr high ↦ absurd (some_none line (is ∙ cond-false (nat_lt k (line_count n)) (Some (line_at n k)) None
      (le-ltb k (line_count n) high)))
]
  where
    some_is : (a b : List ℕ) → Some a ≡ Some b → a ≡ b
    some_is a b e = cc

    some_none : (a : List ℕ) → Some a ≡ None → ⊥
    some_none a e = cc

no_line : (n : ScriptNumbers) (k : ℕ) → None ≡ script_line n k → line_count n ≤ k
no_line n k is = elim (cases_lt k (line_count n)) [
  | inl low ↦ absurd (none_some (line_at n k) (is ∙ cond-true (nat_lt k (line_count n)) (Some (line_at n k)) None
      (lt-ltb k (line_count n) low)))
  | inr high ↦ high
]
  where
    none_some : (a : List ℕ) → None ≡ Some a → ⊥
    none_some a e = cc

line_behind : (s : ScriptFrom) → s.next < line_count s.numbers
    → after_line s ≡ record s { next = s.next + 1 }
line_behind s low =
    cond-true (nat_lt s.next (line_count s.numbers)) (record s { next = s.next + 1 }) s
    (lt-ltb s.next (line_count s.numbers) low)

-- a line was taken, and the next is behind it
pub record TakesLine (n : ScriptNumbers) (lines lines' : ScriptFrom) (line : List ℕ) : Type 0 where
  pub low : lines.next < line_count n
  pub line_is : line ≡ line_at n lines.next
  pub numbers : lines'.numbers ≡ n
  pub moved : lines'.next ≡ lines.next + 1

pub takes_line : (n : ScriptNumbers) (lines lines' : ScriptFrom) (line : List ℕ) → lines.numbers ≡ n
    → Some line ≡ script_line lines.numbers lines.next → lines' ≡ after_line lines
    → TakesLine n lines lines' line
takes_line n lines lines' line same is moved =
    let found : (lines.next < line_count n) × (line ≡ line_at n lines.next) =
    some_line n lines.next line (is ∙ ap (λ m. script_line m lines.next) same) in
    let low : lines.next < line_count lines.numbers =
    subst (λ m. lines.next < line_count m) (sym same) found.0 in
    let on : lines' ≡ record lines { next = lines.next + 1 } = moved ∙ line_behind lines low in
    record {
      low = found.0;
      line_is = found.1;
      numbers = ap (λ (s : ScriptFrom). s.numbers) on ∙ same;
      moved = ap (λ (s : ScriptFrom). s.next) on;
    }

-- a line of the script asks for no file
pub script_loads_nothing : (n : ScriptNumbers) (k : ℕ) (line : List ℕ) → line ≡ line_at n k
    → says_load line ≡ false
script_loads_nothing n k line is =
    ap says_load is ∙ line_loads_nothing n k (state_before n k)

-- ---- the turns, in the terms of the loop

-- what the loop knows of its tally and its place
pub record Stands (n : ScriptNumbers) (lines : ScriptFrom) (start s : Machine) (tally : Tally)
    : Type 0 where
  pub numbers : lines.numbers ≡ n
  pub within : lines.next ≤ line_count n
  pub sums : SumsUp n lines.next start s tally
  pub lines_told : tally.lines ≡ lines.next
  pub refused : tally.refused ≤ tally.lines
  pub calls : tally.calls ≤ tally.lines * 2 ^ 64

pub stands_first : (n : ScriptNumbers) (lines : ScriptFrom) (start : Machine) (tally : Tally)
    → lines ≡ record { numbers = n; next = 0 } → tally ≡ tally_of [] → Stands n lines start start tally
stands_first n lines start tally first is =
    let next : lines.next ≡ 0 = ap (λ (s : ScriptFrom). s.next) first in
    let told : tally.lines ≡ 0 = ap (λ (t : Tally). t.lines) is in
    let refused : tally.refused ≡ 0 = ap (λ (t : Tally). t.refused) is in
    let calls : tally.calls ≡ 0 = ap (λ (t : Tally). t.calls) is in
    record {
      numbers = ap (λ (s : ScriptFrom). s.numbers) first;
      within = omega (arith, next);
      sums = sums_begin n lines start tally first is;
      lines_told = told ∙ sym next;
      refused = omega (arith, refused);
      calls = omega (arith, calls);
    }

pub stands_next : (n : ScriptNumbers) (lines lines' : ScriptFrom) (start s new : Machine)
    (tally tally' : Tally) (line seen : List ℕ) (answer : Answer)
    → Stands n lines start s tally → TakesLine n lines lines' line → seen ≡ line
    → Answered s seen answer new → None ≡ stop_of_answer answer → tally' ≡ one_more tally answer
    → tally'.refused ≤ tally'.lines → tally'.calls ≤ tally'.lines * 2 ^ 64
    → Stands n lines' start new tally'
stands_next n lines lines' start s new tally tally' line seen answer stands took same answered
    goes counted refused calls =
    let told : tally'.lines ≡ tally.lines + 1 = ap (λ (t : Tally). t.lines) counted in
    let low : lines.next < line_count n = took.low in
    let moved : lines'.next ≡ lines.next + 1 = took.moved in
    record {
      numbers = took.numbers;
      within = omega (arith, low, moved);
      sums = subst (λ k. SumsUp n k start new tally') (sym took.moved)
          (sums_more n lines.next start s new tally tally' seen answer stands.sums
          (same ∙ took.line_is) answered (sym goes) counted);
      lines_told = told ∙ ap (λ k. k + 1) stands.lines_told ∙ sym took.moved;
      refused = refused;
      calls = calls;
    }

-- an answer stopped the work: memory ran out
pub ends_without_memory : (n : ScriptNumbers) (lines lines' : ScriptFrom) (s new : Machine)
    (line seen : List ℕ) (answer : Answer) (why : RunStop) (end : Status)
    → TakesLine n lines lines' line → seen ≡ line → Answered s seen answer new
    → Some why ≡ stop_of_answer answer → end ≡ status_of why → end ≡ status.Memory
ends_without_memory n lines lines' s new line seen answer why end took same answered stops is =
    memory_is end why is (stopped_by_memory s new seen answer why (sym stops) answered
    (script_loads_nothing n lines.next seen (same ∙ took.line_is)))

pub stands_last : (end : Status) (n : ScriptNumbers) (lines : ScriptFrom) (start s : Machine)
    (tally : Tally) (old written : Option (List ℕ)) → Stands n lines start s tally
    → None ≡ script_line lines.numbers lines.next → SummaryOutcome end tally old written
    → GenerateOutcome end n start s old written
stands_last end n lines start s tally old written stands past_end outcome =
    let past : line_count n ≤ lines.next =
    no_line n lines.next (past_end ∙ ap (λ m. script_line m lines.next) stands.numbers) in
    let within : lines.next ≤ line_count n = stands.within in
    sums_end end n lines.next start s tally old written stands.sums (omega (arith, past, within))
    outcome

-- ---- the clauses of the command

module _ (n : ScriptNumbers) (s new : Machine) (old written : Option (List ℕ)) where
  pub summary_ends : (end : Status) → IsEnded end → GenerateOutcome end n s new old written
      → WritesSummary s n (has_refused end) new (Adds old written)
  summary_ends = when_ended (λ e. GenerateOutcome e n s new old written)
      (λ b. WritesSummary s n b new (Adds old written)) (λ o. o) (λ o. o)

  begun_of : (refused : Bool) → WritesSummary s n refused new (Adds old written)
      → WritesSummary s n refused new (AddsPrefix old written)
  begun_of refused writes = record {
    answers = writes.answers;
    each = writes.each;
    any = writes.any;
    written = begun_whole old written (summary_text (tally_of writes.answers)) writes.written;
  }

  pub summary_begins : (end : Status) → GenerateOutcome end n s new old written
      → MayWriteSummary s n new (AddsPrefix old written)
  summary_begins status.Done outcome = inr (false, begun_of false outcome)
  summary_begins status.SomeRefused outcome = inr (true, begun_of true outcome)
  summary_begins status.Usage outcome = absurd outcome
  summary_begins status.ReadFault outcome = absurd outcome
  summary_begins status.WriteFault outcome = inr outcome
  summary_begins status.Memory (inl same) =
      inl (begun_whole old written [] (same ∙ Adds-empty old))
  summary_begins status.Memory (inr begun) = inr begun
  summary_begins status.TooLong outcome = absurd outcome

  pub generated_stops : (end : Status) → GenerateOutcome end n s new old written
      → (end ≢ status.ReadFault) × (end ≢ status.TooLong)
  generated_stops end outcome = (
    λ e. subst (λ t. GenerateOutcome t n s new old written) e outcome,
    λ e. subst (λ t. GenerateOutcome t n s new old written) e outcome,
  )

-- what holds of a command holds of the one that the words say
pub of_command : (P : Option Invocation → Type 0) (said other : Option Invocation) → other ≡ said
    → P other → P said
of_command P said other is = subst P is

pub nothing_begun : (said : Option Invocation) (s new : Machine) (old : Option (List ℕ))
    → BeginsSummary said s new (AddsPrefix old old)
nothing_begun said s new old =
    always_generate said _ (λ n. inl (begun_whole old old [] (Adds-empty old)))
