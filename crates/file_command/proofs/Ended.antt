-- How a run ended, by what became of its text.
use Rattle.std.proofs.Common.{◌≡◌, ◌≢◌, ◌∙◌, ℕ, Bool, true, false, List, [], ap, inr, refl, sym, Option, Some}
use Rattle.std.proofs.lemmas.Option.{none-some}
use Rattle.io_face.specs.Sink.{Adds}
use Rattle.io_face.specs.SinkLaws.{Adds-empty}
use Rattle.file_command.specs.Ending.{EndsText, EndsWith, IsThis, WritesAnswer, is_refusal, printed}
use Rattle.file_command.specs.Status.{IsAnswerWritten}
use Rattle.file_command.specs.declared.status.Status.{Status}
use Rattle.file_command.specs.declared.status.Status.TheVariants as status
use Rattle.report_core.specs.declared.answer.Answer.{Answer}
use Rattle.report_core.specs.declared.answer.Answer.TheVariants.{Memory}

-- a text that was written whole
pub whole : (text : List ℕ) (ended : Status) (old new : Option (List ℕ)) → IsAnswerWritten ended
    → Adds old new text → EndsText text ended ended old new
whole text status.Done old new h adds = (refl, adds)
whole text status.SomeRefused old new h adds = (refl, adds)
whole text _ old new h adds = absurd h

-- an answer that prints isn't that memory ran out
prints_memory : (answer : Answer) (text : List ℕ) → printed answer ≡ Some text → answer ≢ Memory
prints_memory answer text prints e = none-some text (sym (ap printed e) ∙ prints)

module _ (answer said : Answer) (text seen : List ℕ) (is : answer ≡ said)
    (prints : printed said ≡ Some text) (same : seen ≡ text) where
  writes : (refused : Bool) → is_refusal said ≡ refused → (wrote : List ℕ → Type 0) → wrote seen
      → WritesAnswer (IsThis answer) refused wrote
  writes refused kind wrote written = record {
    answer = said;
    said = (sym is, prints_memory said text prints);
    kind = kind;
    text = seen;
    prints = prints ∙ ap Some (sym same);
    written = written;
  }

  -- the text of an answer that is no refusal
  pub wrote_answer : (end : Status) (old new : Option (List ℕ)) → is_refusal said ≡ false
      → EndsText seen status.Done end old new → EndsWith (IsThis answer) end old new
  wrote_answer status.Done old new kind h = writes false kind (Adds old new) h.1
  wrote_answer status.SomeRefused old new kind h = cc
  wrote_answer status.Usage old new kind h = cc
  wrote_answer status.ReadFault old new kind h = cc
  wrote_answer status.WriteFault old new kind h = (false, writes false kind _ h)
  wrote_answer status.Memory old new kind h = inr (false, writes false kind _ h)
  wrote_answer status.TooLong old new kind h = cc

  -- that of a refusal
  pub wrote_refusal : (end : Status) (old new : Option (List ℕ)) → is_refusal said ≡ true
      → EndsText seen status.SomeRefused end old new → EndsWith (IsThis answer) end old new
  wrote_refusal status.Done old new kind h = cc
  wrote_refusal status.SomeRefused old new kind h = writes true kind (Adds old new) h.1
  wrote_refusal status.Usage old new kind h = cc
  wrote_refusal status.ReadFault old new kind h = cc
  wrote_refusal status.WriteFault old new kind h = (true, writes true kind _ h)
  wrote_refusal status.Memory old new kind h = inr (true, writes true kind _ h)
  wrote_refusal status.TooLong old new kind h = cc

-- an answer that prints nothing
pub wrote_nothing : (answer said : Answer) (old : Option (List ℕ)) → answer ≡ said
    → printed said ≡ Some [] → is_refusal said ≡ false
    → EndsWith (IsThis answer) status.Done old old
wrote_nothing answer said old is prints kind =
    wrote_answer answer said [] [] is prints refl status.Done old old kind (refl, Adds-empty old)
