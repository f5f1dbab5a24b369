-- How a run ends that gives one answer about the model of a file.
--
--     EndsWith        how it ended, by its status, and what it wrote
--     CanBeFetched    nothing speaks against fetching the file
use Rattle.std.specs.Prelude.{◌≡◌, ◌≢◌, ◌⊎◌, ℕ, Bool, true, false, List, [], Option, Some, None, IsTrue, Err}
use Rattle.io_face.specs.Shelf.{Gives}
use Rattle.io_face.specs.Sink.{Adds, AddsPrefix}
use Rattle.io_face.specs.Told.{Told}
use Rattle.io_face.specs.declared.shelf.FetchFault.TheVariants as fetch
use Rattle.file_command.specs.declared.status.Status.{Status}
use Rattle.io_face.specs.Fault.{CountsNoFault}
use Rattle.file_command.specs.declared.status.Status.TheVariants as status
use Rattle.report_core.specs.declared.answer.Answer.{Answer}
use Rattle.report_core.specs.declared.answer.Answer.TheVariants.{Memory, Printed, Quit, ReadFault, Refused, Silent, TooLong}

-- ---- what an answer prints

-- its text; none where the answer is why there is none
abbrev pub printed : Answer → Option (List ℕ)
printed Silent = Some []
printed (Printed text) = Some text
printed (Refused text) = Some text
printed Quit = Some []
printed _ = None

abbrev pub is_refusal : Answer → Bool
is_refusal (Refused text) = true
is_refusal _ = false

-- ---- how a run ends

-- an answer that may be given, a refusal or not; and what is said of its text
pub record WritesAnswer (says : Answer → Type 0) (refused : Bool)
    (wrote : List ℕ → Type 0) : Type 0 where
  pub answer : Answer
  pub said : says answer
  pub kind : is_refusal answer ≡ refused
  pub text : List ℕ
  pub prints : printed answer ≡ Some text
  pub written : wrote text

-- by the status: the whole text of an answer, a refusal or not; nothing, where a file wasn't
-- fetched; or a prefix
abbrev pub EndsWith : (Answer → Type 0) → Status → Option (List ℕ) → Option (List ℕ) → Type 0
EndsWith says status.Done old new = WritesAnswer says false (Adds old new)
EndsWith says status.SomeRefused old new = WritesAnswer says true (Adds old new)
EndsWith says status.Usage old new = ⊥
EndsWith says status.ReadFault old new = says ReadFault × (new ≡ old)
EndsWith says status.WriteFault old new =
    (refused : Bool) × WritesAnswer says refused (AddsPrefix old new)
EndsWith says status.Memory old new = (new ≡ old)
    ⊎ ((refused : Bool) × WritesAnswer says refused (AddsPrefix old new))
EndsWith says status.TooLong old new = says TooLong × (new ≡ old)

-- this answer, and memory didn't run out for it
abbrev pub IsThis : Answer → Answer → Type 0
IsThis answer said = (said ≡ answer) × (said ≢ Memory)

-- a text was written whole, and the run ends as it is to; or a prefix of it was
abbrev pub EndsText : List ℕ → Status → Status → Option (List ℕ) → Option (List ℕ) → Type 0
EndsText text ended status.WriteFault old new = AddsPrefix old new text
EndsText text ended status.Memory old new = AddsPrefix old new text
EndsText text ended end old new = (end ≡ ended) × Adds old new text

-- ---- when it ends well

-- the file isn't too long, and the shelf has no fault, or is sure and has the file
pub record CanBeFetched (shelf : Told) (name : List ℕ) (old new : ℕ) : Type 0 where
  pub short : Gives shelf.files name (Err fetch.TooLong) → ⊥
  pub there : CountsNoFault old new
      ⊎ (IsTrue shelf.sure × (Gives shelf.files name (Err fetch.Failed) → ⊥))
