-- How a run ends where nothing is against it, and what it says under another name.
use Rattle.std.specs.Prelude.{◌≡◌, ◌⊎◌, ℕ, Bool, true, false, List, Option, Err, refl}
use Rattle.std.proofs.Common.{arith, inl, inr}
use Rattle.io_face.specs.Fault.{CountsNoFault, HasFaulted}
use Rattle.io_face.specs.Sink.{Adds, AddsPrefix}
use Rattle.io_face.specs.Told.{MayGive, Told}
use Rattle.io_face.specs.declared.shelf.FetchFault.TheVariants as fetch
use Rattle.file_command.specs.Ending.{CanBeFetched, EndsWith, WritesAnswer}
use Rattle.file_command.specs.Status.{IsAnswerWritten}
use Rattle.file_command.specs.declared.status.Status.{Status}
use Rattle.file_command.specs.declared.status.Status.TheVariants as status
use Rattle.report_core.specs.declared.answer.Answer.{Answer}
use Rattle.report_core.specs.declared.answer.Answer.TheVariants.{ReadFault, TooLong}

-- ---- what is said follows

module _ (says more : Answer → Type 0) (follows : (answer : Answer) → says answer → more answer)
  where
    writes_more : (refused : Bool) (wrote : List ℕ → Type 0) → WritesAnswer says refused wrote
        → WritesAnswer more refused wrote
    writes_more refused wrote w =
        record {
          answer = w.answer;
          said = follows w.answer w.said;
          kind = w.kind;
          text = w.text;
          prints = w.prints;
          written = w.written;
        }

    pub ends_more : (end : Status) (old new : Option (List ℕ)) → EndsWith says end old new
        → EndsWith more end old new
    ends_more status.Done old new h = writes_more false (Adds old new) h
    ends_more status.SomeRefused old new h = writes_more true (Adds old new) h
    ends_more status.Usage old new h = h
    ends_more status.ReadFault old new h = (follows ReadFault h.0, h.1)
    ends_more status.WriteFault old new h = (h.0, writes_more h.0 (AddsPrefix old new) h.1)
    ends_more status.Memory old new (inl h) = inl h
    ends_more status.Memory old new (inr h) = inr (h.0, writes_more h.0 (AddsPrefix old new) h.1)
    ends_more status.TooLong old new h = (follows TooLong h.0, h.1)

-- ---- nothing is against it

unsound : (old new : ℕ) → CountsNoFault old new → HasFaulted old new → ⊥
unsound old new sound (inl rose) = omega (arith, sound.0, sound.1, rose)
unsound old new sound (inr stands) = omega (arith, sound.0, sound.1, stands)

pub ends_well : (says : Answer → Type 0) (end : Status) (old new : Option (List ℕ)) (shelf : Told)
    (name : List ℕ) (reads reads' writes writes' : ℕ) → EndsWith says end old new
    → (says ReadFault → MayGive shelf name (Err fetch.Failed))
    → (says TooLong → MayGive shelf name (Err fetch.TooLong))
    → (end ≡ status.ReadFault → HasFaulted reads reads')
    → (end ≡ status.WriteFault → HasFaulted writes writes')
    → CanBeFetched shelf name reads reads' → CountsNoFault writes writes'
    → IsAnswerWritten end ⊎ (end ≡ status.Memory)
ends_well says status.Done old new shelf name reads reads' writes writes' h failed long read write
    fetched sound = inl tt
ends_well says status.SomeRefused old new shelf name reads reads' writes writes' h failed long read
    write fetched sound = inl tt
ends_well says status.Usage old new shelf name reads reads' writes writes' h failed long read write
    fetched sound = absurd h
ends_well says status.ReadFault old new shelf name reads reads' writes writes' h failed long read
    write fetched sound = elim fetched.there [
      | inl quiet ↦ absurd (unsound reads reads' quiet (read refl))
      | inr there ↦ absurd (there.1 (failed h.0 there.0))
    ]
ends_well says status.WriteFault old new shelf name reads reads' writes writes' h failed long read
    write fetched sound = absurd (unsound writes writes' sound (write refl))
ends_well says status.Memory old new shelf name reads reads' writes writes' h failed long read write
    fetched sound = inr refl
ends_well says status.TooLong old new shelf name reads reads' writes writes' h failed long read
    write fetched sound = absurd (fetched.short (long h.0))
