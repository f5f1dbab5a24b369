-- How `check` runs, from what became of its verdict.
use Rattle.std.proofs.Common.{◌≡◌, ◌≢◌, ℕ, ◌⊎◌, Bool, true, false, List, [], sym, ◌∙◌, subst, inl, inr, Option, Some}
use Rattle.std.specs.Prelude.{if◌then◌else◌, Ok, Err}
use Rattle.command_words.specs.declared.words.Invocation.TheVariants.{Check}
use Rattle.certificate_check.specs.Verdict.{AsksModelAndCertificate, IsVerdict}
use Rattle.certificate_check.specs.VerdictLaws.{fails_by, too_long_by}
use Rattle.io_face.specs.Fault.{HasFaulted}
use Rattle.io_face.specs.Shelf.{AsksFor}
use Rattle.io_face.specs.Sink.{Adds, AddsPrefix}
use Rattle.io_face.specs.SinkLaws.{Adds-empty}
use Rattle.io_face.specs.Told.{Told}
use Rattle.moi_run.specs.Answering.{PrintsText, WritesBy, is_refused}
use Rattle.moi_run.specs.Run.{CheckOutcome, Runs, WritesVerdict}
use Rattle.moi_run.specs.Status.{IsEnded, has_refused, status_of}
use Rattle.moi_run.specs.RunState.{RunState}
use Rattle.moi_run.specs.declared.reply.Reply.{Reply}
use Rattle.moi_run.specs.declared.status.Status.{Status}
use Rattle.moi_run.specs.declared.status.Status.TheVariants as status
use Rattle.moi_run.specs.declared.stop.RunStop.{RunStop}
use Rattle.moi_run.specs.declared.stop.RunStop.TheVariants as stop
use Rattle.moi_run.proofs.Answering.{prints_memory}
use Rattle.moi_run.proofs.Exits.{at_end, when_ended}
use Rattle.moi_run.proofs.Written.{begun_whole}
use Rattle.report_core.specs.declared.answer.Answer.{Answer}
use Rattle.report_core.specs.declared.answer.Answer.TheVariants.{Memory as NoMemory, ReadFault, TooLong}

-- ---- what the outcome says, by the status

module _ (shelf : Told) (faults faults' : ℕ) (model certificate : List ℕ)
    (old new : Option (List ℕ)) where
  check_ends_by : (end : Status) → IsEnded end
      → CheckOutcome end shelf faults faults' model certificate old new
      → WritesVerdict shelf model certificate (has_refused end) (Adds old new)
  check_ends_by = when_ended (λ e. CheckOutcome e shelf faults faults' model certificate old new)
      (λ b. WritesVerdict shelf model certificate b (Adds old new)) (λ o. o) (λ o. o)

  verdict_begun : (refused : Bool) → WritesVerdict shelf model certificate refused (Adds old new)
      → WritesVerdict shelf model certificate refused (AddsPrefix old new)
  verdict_begun refused writes = record {
    answer = writes.answer;
    verdict = writes.verdict;
    printed = record {
      text = writes.printed.text;
      prints = writes.printed.prints;
      written = begun_whole old new writes.printed.text writes.printed.written;
    };
  }

  nothing_begun : new ≡ old → AddsPrefix old new []
  nothing_begun same = begun_whole old new [] (same ∙ Adds-empty old)

  check_begins : (end : Status) → CheckOutcome end shelf faults faults' model certificate old new
      → AddsPrefix old new [] ⊎ ((refused : Bool) × WritesVerdict shelf model certificate refused
      (AddsPrefix old new))
  check_begins status.Done outcome = inr (false, verdict_begun false outcome)
  check_begins status.SomeRefused outcome = inr (true, verdict_begun true outcome)
  check_begins status.Usage outcome = absurd outcome
  check_begins status.ReadFault outcome = inl (nothing_begun outcome.2)
  check_begins status.WriteFault outcome = inr outcome
  check_begins status.Memory (inl same) = inl (nothing_begun same)
  check_begins status.Memory (inr begun) = inr begun
  check_begins status.TooLong outcome = inl (nothing_begun outcome.1)

pub runs_check : (model certificate : List ℕ) (end : Status) (left left' : Option (List ℕ))
    (shelf : Told) (faults faults' : ℕ) (source : Type 0) (s new : RunState)
    (old written : Option (List ℕ))
    → CheckOutcome end shelf faults faults' model certificate old written
    → (end ≢ status.Memory
    → AsksModelAndCertificate shelf model certificate (AsksFor s.asked new.asked))
    → Runs (Some (Check model certificate)) end left left' shelf source (HasFaulted faults faults')
    s new (Adds old written) (AddsPrefix old written)
runs_check model certificate end left left' shelf faults faults' source s new old written outcome
    asks =
    let at : (how : Status) → end ≡ how
    → CheckOutcome how shelf faults faults' model certificate old written =
    λ (how : Status) (e : end ≡ how). subst (λ t. CheckOutcome t shelf faults faults' model
    certificate old written) e outcome in
    record {
      text = λ ended. tt;
      verdict = λ ended. check_ends_by shelf faults faults' model certificate old written end
          ended outcome;
      pivots = λ ended. tt;
      to_the_end = λ ended. tt;
      within_limits = λ ended. tt;
      prefix = tt;
      asks = asks;
      verdict_prefix = check_begins shelf faults faults' model certificate old written end outcome;
      read_fault = λ e. (
        (at status.ReadFault e).1,
        λ sure. (let fails = fails_by shelf model certificate (at status.ReadFault e).0 in
            (fails.name, fails.one, fails.gave sure)),
      );
      at_read_fault = λ e. (
        (at status.ReadFault e).0,
        (at status.ReadFault e).2 ∙ Adds-empty old,
      );
      at_write_fault = λ e. tt;
      too_long = λ e. (let long = too_long_by shelf model certificate (at status.TooLong e).0 in
          (long.name, long.one, long.gave));
      at_limit = λ e. (
        (at status.TooLong e).0,
        (at status.TooLong e).1 ∙ Adds-empty old,
      );
    }

-- ---- the verdict was written, or a part of it, or nothing

verdict_of : (shelf : Told) (model certificate : List ℕ) (answer : Answer) (was : Bool)
    (wrote : List ℕ → Type 0) → (answer ≢ NoMemory → IsVerdict shelf model certificate answer)
    → PrintsText answer was wrote → WritesVerdict shelf model certificate was wrote
verdict_of shelf model certificate answer was wrote verdict printed =
    record { answer = answer; verdict = verdict (prints_memory printed.prints); printed = printed }

pub check_stopped : (reason : RunStop) (end : Status) (shelf : Told) (faults faults' : ℕ)
    (model certificate : List ℕ) (answer : Answer) (old new : Option (List ℕ))
    → end ≡ status_of reason
    → (answer ≢ NoMemory → IsVerdict shelf model certificate answer)
    → (answer ≡ ReadFault → HasFaulted faults faults') → WritesBy (Err reason) answer old new
    → CheckOutcome end shelf faults faults' model certificate old new
check_stopped reason end shelf faults faults' model certificate answer old new is verdict cause
    wrote =
    subst (λ e. CheckOutcome e shelf faults faults' model certificate old new) (sym is)
    (by reason wrote)
  where
    -- the verdict is this one, which isn't running out of memory
    this : (said : Answer) → answer ≡ said → said ≢ NoMemory
        → IsVerdict shelf model certificate said
    this said same other =
        subst (IsVerdict shelf model certificate) same (verdict (λ e. other (sym same ∙ e)))

    part : (was : Bool) → PrintsText answer was (AddsPrefix old new)
        → WritesVerdict shelf model certificate was (AddsPrefix old new)
    part was = verdict_of shelf model certificate answer was (AddsPrefix old new) verdict

    by : (why : RunStop) → WritesBy (Err why) answer old new
        → CheckOutcome (status_of why) shelf faults faults' model certificate old new
    by stop.ReadFault w = (this ReadFault w.0 (λ e. cc), cause w.0, w.1)
    by stop.TooLong w = (this TooLong w.0 (λ e. cc), w.1)
    by stop.WriteFault w = (w.0, part w.0 w.1)
    by stop.Memory (inl same) = inl same
    by stop.Memory (inr w) = inr (w.0, part w.0 w.1)

pub check_answered : (given : Reply) (end : Status) (shelf : Told) (faults faults' : ℕ)
    (model certificate : List ℕ) (answer : Answer) (refused : Bool) (old new : Option (List ℕ))
    → end ≡ (if refused then status.SomeRefused else status.Done) → refused ≡ is_refused given
    → (answer ≢ NoMemory → IsVerdict shelf model certificate answer)
    → WritesBy (Ok given) answer old new
    → CheckOutcome end shelf faults faults' model certificate old new
check_answered given end shelf faults faults' model certificate answer refused old new is same
    verdict wrote =
    at_end (λ e. CheckOutcome e shelf faults faults' model certificate old new)
    (λ b. WritesVerdict shelf model certificate b (Adds old new)) (λ w. w) (λ w. w) refused end is
    (subst (λ b. WritesVerdict shelf model certificate b (Adds old new)) (sym same)
    (verdict_of shelf model certificate answer (is_refused given) (Adds old new) verdict wrote.0))

-- memory ran out only where that is how it ended
pub memory_told : (reason : RunStop) (end : Status) (answer : Answer) (old new : Option (List ℕ))
    → end ≡ status_of reason → WritesBy (Err reason) answer old new → end ≢ status.Memory
    → answer ≢ NoMemory
memory_told stop.Memory end answer old new is wrote other e = absurd (other is)
memory_told stop.WriteFault end answer old new is wrote other e =
    prints_memory wrote.1.prints e
memory_told stop.ReadFault end answer old new is wrote other e =
    let other_is : answer ≡ ReadFault = wrote.0 in cc
memory_told stop.TooLong end answer old new is wrote other e =
    let other_is : answer ≡ TooLong = wrote.0 in cc
