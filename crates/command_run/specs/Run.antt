-- How the command of a program runs.
--
--     IsRun          by what may be answered to the command, what it asks for, and when nothing speaks
--                    against fetching what it asks for
--     IsRunOnFile    a command that asks for the file of a model alone
use Rattle.std.specs.Prelude.{◌≡◌, ◌≢◌, ◌⊎◌, ◌↔◌, ℕ, List, [], ◌∷◌, IfSome, None, Option}
use Rattle.file_command.specs.Ending.{CanBeFetched, EndsWith}
use Rattle.file_command.specs.Loading.{AnswersFile}
use Rattle.file_command.specs.Status.{IsAnswerWritten}
use Rattle.file_command.specs.declared.status.Status.{Status}
use Rattle.file_command.specs.declared.status.Status.TheVariants as status
use Rattle.io_face.specs.Fault.{CountsNoFault, HasFaulted}
use Rattle.io_face.specs.Shelf.{AsksFor}
use Rattle.io_face.specs.Told.{Told}
use Rattle.report_core.specs.declared.answer.Answer.{Answer}
use Rattle.user_model.specs.Model.{ModelValue}

-- the names of files, where they are known
abbrev pub Asked : Type 0
Asked = Option (List (List ℕ))

-- what is seen of a shelf and a sink: the files that were asked for and the faults of fetches, the
-- text that was written and the faults of writes
pub record Seen : Type 0 where
  pub asked : Asked
  pub reads : ℕ
  pub written : Option (List ℕ)
  pub writes : ℕ

abbrev pub seen : Asked → ℕ → Option (List ℕ) → ℕ → Seen
seen asked reads written writes =
    record { asked = asked; reads = reads; written = written; writes = writes }

-- the run of the command that the arguments are, if they are one
pub record IsRun {C : Type 0} (command : Option C) (answers : C → Answer → Type 0)
    (asks_for : C → Asked → Asked → Type 0) (can_be_fetched : C → ℕ → ℕ → Type 0)
    (old new : Seen) (end : Status) : Type 0 where
  -- it ends so at other arguments
  pub usage : (end ≡ status.Usage) ↔ (command ≡ None)
  -- what is written is the answer, whole where the run ended
  pub ends : IfSome command (λ c. EndsWith (answers c) end old.written new.written)
  -- a fault was counted, and each that was counted ends the run
  pub read_fault : end ≡ status.ReadFault → HasFaulted old.reads new.reads
  pub write_fault : end ≡ status.WriteFault → HasFaulted old.writes new.writes
  pub sound_fetches : IsAnswerWritten end → new.reads ≡ old.reads
  pub sound_writes : IsAnswerWritten end → new.writes ≡ old.writes
  -- these files are asked for, and no others are
  pub asks : end ≢ status.Memory → IfSome command (λ c. asks_for c old.asked new.asked)
  -- with nothing against it, the run ends, unless memory runs out
  pub complete : IfSome command (λ c. can_be_fetched c old.reads new.reads
      → CountsNoFault old.writes new.writes → IsAnswerWritten end ⊎ (end ≡ status.Memory))

-- the file of a model is asked for once, and answered by what is said of its model
abbrev pub IsRunOnFile : {C : Type 0} → Option C → (C → List ℕ)
    → (C → ModelValue → Answer → Type 0) → Told → Seen → Seen → Status → Type 0
IsRunOnFile command file says told old new end =
    IsRun command (λ c. AnswersFile (says c) told (file c))
    (λ c before after. AsksFor before after (file c ∷ [])) (λ c. CanBeFetched told (file c)) old new
    end
