-- What a program's clauses follow from: the run ended with the answer to the file of a model.
use Rattle.std.specs.Prelude.{◌≡◌, ◌≢◌, ◌⊎◌, ℕ, Bool, List, Option, None, refl}
use Rattle.std.proofs.Common.{ap, subst, sym, ◌∙◌}
use Rattle.std.proofs.lemmas.Option.{none-some}
use Rattle.io_face.specs.Fault.{CountsNoFault, HasFaulted}
use Rattle.io_face.specs.Sink.{Adds}
use Rattle.io_face.specs.Told.{Told}
use Rattle.file_command.specs.Ending.{CanBeFetched, EndsWith, IsThis, WritesAnswer, printed}
use Rattle.file_command.specs.EndingLaws.{ends_more, ends_well}
use Rattle.file_command.specs.Loading.{AnswersFile}
use Rattle.file_command.specs.LoadingLaws.{SaysNoFault, file_fails, file_too_long, shelf_fault}
use Rattle.file_command.specs.Status.{IsAnswerWritten}
use Rattle.file_command.specs.declared.status.Status.{Status}
use Rattle.file_command.specs.declared.status.Status.TheVariants as status
use Rattle.report_core.specs.declared.answer.Answer.{Answer}
use Rattle.report_core.specs.declared.answer.Answer.TheVariants.{Memory, ReadFault}
use Rattle.user_model.specs.Model.{ModelValue}

module _ (answer : Answer) where
  wrote_no_memory : (was : Bool) (wrote : List ℕ → Type 0)
      → WritesAnswer (IsThis answer) was wrote → answer ≢ Memory
  wrote_no_memory was wrote w e = w.said.1 (w.said.0 ∙ e)

  wrote_no_fault : (was : Bool) (wrote : List ℕ → Type 0)
      → WritesAnswer (IsThis answer) was wrote → answer ≢ ReadFault
  wrote_no_fault was wrote w e =
      none-some w.text (sym (ap printed (w.said.0 ∙ e)) ∙ w.prints)

  -- the run doesn't end as one with other arguments
  pub never_usage : (end : Status) (old new : Option (List ℕ)) → EndsWith (IsThis answer) end old new
      → end ≢ status.Usage
  never_usage end old new ended is = subst (λ e. EndsWith (IsThis answer) e old new) is ended

  -- it failed to read only where that is the answer
  pub for_a_fault : (end : Status) (old new : Option (List ℕ)) → EndsWith (IsThis answer) end old new
      → end ≡ status.ReadFault → answer ≡ ReadFault
  for_a_fault end old new ended is =
      sym (subst (λ e. EndsWith (IsThis answer) e old new) is ended).0.0

  -- and where it ended, that isn't the answer
  pub for_no_fault : (end : Status) (old new : Option (List ℕ)) → EndsWith (IsThis answer) end old new
      → IsAnswerWritten end → answer ≢ ReadFault
  for_no_fault status.Done old new ended is = wrote_no_fault _ (Adds old new) ended
  for_no_fault status.SomeRefused old new ended is = wrote_no_fault _ (Adds old new) ended
  for_no_fault _ old new ended is = absurd is

  -- memory didn't run out for the answer unless the run says so
  pub for_no_memory : (end : Status) (old new : Option (List ℕ))
      → EndsWith (IsThis answer) end old new → end ≢ status.Memory → answer ≢ Memory
  for_no_memory status.Done old new ended not = wrote_no_memory _ (Adds old new) ended
  for_no_memory status.SomeRefused old new ended not = wrote_no_memory _ (Adds old new) ended
  for_no_memory status.Usage old new ended not = absurd ended
  for_no_memory status.ReadFault old new ended not = λ e. ended.0.1 (ended.0.0 ∙ e)
  for_no_memory status.WriteFault old new ended not = wrote_no_memory ended.0 _ ended.1
  for_no_memory status.Memory old new ended not = absurd (not refl)
  for_no_memory status.TooLong old new ended not = λ e. ended.0.1 (ended.0.0 ∙ e)

  module _ (says : ModelValue → Answer → Type 0) (shelf : Told) (name : List ℕ)
      (said : answer ≢ Memory → AnswersFile says shelf name answer) (end : Status)
      (old new : Option (List ℕ)) (ended : EndsWith (IsThis answer) end old new) where
    -- what was written is answered to the file
    pub ends_so : EndsWith (AnswersFile says shelf name) end old new
    ends_so =
        ends_more (IsThis answer) (AnswersFile says shelf name)
        (λ told h. subst (AnswersFile says shelf name) (sym h.0) (said (λ e. h.1 (h.0 ∙ e)))) end
        old new ended

    -- with nothing against it the run ends well
    pub ends_well_so : SaysNoFault says → (reads reads' writes writes' : ℕ)
        → (end ≡ status.ReadFault → HasFaulted reads reads')
        → (end ≡ status.WriteFault → HasFaulted writes writes')
        → CanBeFetched shelf name reads reads' → CountsNoFault writes writes'
        → IsAnswerWritten end ⊎ (end ≡ status.Memory)
    ends_well_so plain reads reads' writes writes' read write fetched sound =
        ends_well (AnswersFile says shelf name) end old new shelf name reads reads' writes writes'
        ends_so (file_fails says plain shelf name) (file_too_long says plain shelf name) read write
        fetched sound

-- an answer that is no fault of the shelf isn't that the file failed
pub no_failure : (says : ModelValue → Answer → Type 0) → SaysNoFault says
    → (model : ModelValue) (answer : Answer) → (answer ≢ Memory → says model answer)
    → answer ≢ ReadFault
no_failure says plain model answer said e =
    never (sym (ap shelf_fault e) ∙ plain model answer (said (λ m. never_both (sym e ∙ m))))
  where
    never_both : ReadFault ≡ Memory → ⊥
    never_both f = cc

    never : shelf_fault ReadFault ≡ None → ⊥
    never f = cc
