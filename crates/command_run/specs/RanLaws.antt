-- A run that gives one answer, and then ends with it, is the run of its command.
use Rattle.std.specs.Prelude.{◌≡◌, ◌≢◌, ◌⊎◌, ℕ, List, [], ◌∷◌, IsSome, Option, Some, None, refl}
use Rattle.std.proofs.Common.{inl, inr, subst, sym, true≢false, ◌∙◌}
use Rattle.std.proofs.lemmas.Option.{none-some}
use Rattle.command_run.specs.Run.{Asked, IsRun, IsRunOnFile, Seen}
use Rattle.file_command.specs.Ending.{CanBeFetched, EndsWith, IsThis}
use Rattle.file_command.specs.EndingLaws.{ends_more, ends_well}
use Rattle.file_command.specs.Loading.{AnswersFile}
use Rattle.file_command.specs.LoadingLaws.{SaysNoFault, file_fails, file_too_long}
use Rattle.file_command.specs.RunLaws.{for_a_fault, for_no_fault, for_no_memory, never_usage}
use Rattle.file_command.specs.Status.{IsAnswerWritten}
use Rattle.file_command.specs.declared.status.Status.{Status}
use Rattle.file_command.specs.declared.status.Status.TheVariants as status
use Rattle.io_face.specs.Fault.{CountsNoFault, HasFaulted}
use Rattle.io_face.specs.Shelf.{AsksFor}
use Rattle.io_face.specs.Told.{Told}
use Rattle.report_core.specs.declared.answer.Answer.{Answer}
use Rattle.report_core.specs.declared.answer.Answer.TheVariants.{Memory, ReadFault}
use Rattle.user_model.specs.Model.{ModelValue}

usage_reads : status.Usage ≡ status.ReadFault → ⊥
usage_reads e = cc

usage_writes : status.Usage ≡ status.WriteFault → ⊥
usage_writes e = cc

memory_reads : status.Memory ≡ status.ReadFault → ⊥
memory_reads e = cc

memory_writes : status.Memory ≡ status.WriteFault → ⊥
memory_writes e = cc

memory_usage : status.Memory ≡ status.Usage → ⊥
memory_usage e = cc

module _ {C : Type 0} (answers : C → Answer → Type 0) (asks_for : C → Asked → Asked → Type 0)
    (can_be_fetched : C → ℕ → ℕ → Type 0) where
  -- an answer was given to the command, and the run ended with it
  pub record IsAnswered (c : C) (answer : Answer) (old new : Seen) (end : Status) : Type 0 where
    pub says : answer ≢ Memory → answers c answer
    pub asks : answer ≢ Memory → asks_for c old.asked new.asked
    pub cause : answer ≡ ReadFault → HasFaulted old.reads new.reads
    pub sound : answer ≢ ReadFault → new.reads ≡ old.reads
    pub ends : EndsWith (IsThis answer) end old.written new.written
    pub write_fault : end ≡ status.WriteFault → HasFaulted old.writes new.writes
    pub sound_writes : IsAnswerWritten end → new.writes ≡ old.writes

  -- with nothing against it, a run ends well that is said to end so
  abbrev pub EndsWell : C → Type 0
  EndsWell c = (end : Status) (old new : Seen)
      → EndsWith (answers c) end old.written new.written
      → (end ≡ status.ReadFault → HasFaulted old.reads new.reads)
      → (end ≡ status.WriteFault → HasFaulted old.writes new.writes)
      → can_be_fetched c old.reads new.reads → CountsNoFault old.writes new.writes
      → IsAnswerWritten end ⊎ (end ≡ status.Memory)

  pub ran : (command : Option C) (c : C) → command ≡ Some c → (answer : Answer) (old new : Seen)
      (end : Status) → IsAnswered c answer old new end → EndsWell c
      → IsRun command answers asks_for can_be_fetched old new end
  ran command c is answer old new end a well =
      subst (λ o. IsRun o answers asks_for can_be_fetched old new end) (sym is) record {
        usage = (
          λ e. absurd (never_usage answer end old.written new.written a.ends e),
          λ e. absurd (none-some c (sym e)),
        );
        ends = said;
        read_fault = read;
        write_fault = a.write_fault;
        sound_fetches = λ ended.
            a.sound (for_no_fault answer end old.written new.written a.ends ended);
        sound_writes = a.sound_writes;
        asks = λ not. a.asks (for_no_memory answer end old.written new.written a.ends not);
        complete = λ fetched sound. well end old new said read a.write_fault fetched sound;
      }
    where
      said : EndsWith (answers c) end old.written new.written
      said =
          ends_more (IsThis answer) (answers c)
          (λ told h. subst (answers c) (sym h.0) (a.says (λ e. h.1 (h.0 ∙ e)))) end old.written
          new.written a.ends

      read : end ≡ status.ReadFault → HasFaulted old.reads new.reads
      read e = a.cause (for_a_fault answer end old.written new.written a.ends e)

  -- the arguments are no command
  pub no_command : (command : Option C) → command ≡ None → (old : Seen)
      → IsRun command answers asks_for can_be_fetched old old status.Usage
  no_command command is old =
      subst (λ o. IsRun o answers asks_for can_be_fetched old old status.Usage) (sym is) record {
        usage = (λ e. refl, λ e. refl);
        ends = tt;
        read_fault = λ e. absurd (usage_reads e);
        write_fault = λ e. absurd (usage_writes e);
        sound_fetches = λ ended. refl;
        sound_writes = λ ended. refl;
        asks = λ not. tt;
        complete = tt;
      }

  -- memory ran out before it was read
  pub out_of_memory : (command : Option C) → IsSome command → (old : Seen)
      → IsRun command answers asks_for can_be_fetched old old status.Memory
  out_of_memory None some old = absurd (true≢false (sym some))
  out_of_memory (Some c) some old = record {
    usage = (λ e. absurd (memory_usage e), λ e. absurd (none-some c (sym e)));
    ends = inl refl;
    read_fault = λ e. absurd (memory_reads e);
    write_fault = λ e. absurd (memory_writes e);
    sound_fetches = λ ended. refl;
    sound_writes = λ ended. refl;
    asks = λ not. absurd (not refl);
    complete = λ fetched sound. inr refl;
  }

-- ---- a command on one file

module _ {C : Type 0} (file : C → List ℕ) (says : C → ModelValue → Answer → Type 0)
    (told : Told) where
  abbrev pub FileAnswers : C → Answer → Type 0
  FileAnswers c = AnswersFile (says c) told (file c)

  abbrev pub AsksForFile : C → Asked → Asked → Type 0
  AsksForFile c before after = AsksFor before after (file c ∷ [])

  abbrev pub FileCanBeFetched : C → ℕ → ℕ → Type 0
  FileCanBeFetched c = CanBeFetched told (file c)

  file_ends_well : (c : C) → SaysNoFault (says c)
      → EndsWell FileAnswers AsksForFile FileCanBeFetched c
  file_ends_well c plain end old new said read write fetched sound =
      ends_well (FileAnswers c) end old.written new.written told (file c) old.reads new.reads
      old.writes new.writes said (file_fails (says c) plain told (file c))
      (file_too_long (says c) plain told (file c)) read write fetched sound

  pub ran_on_file : (command : Option C) (c : C) → command ≡ Some c → (answer : Answer)
      (old new : Seen) (end : Status)
      → IsAnswered FileAnswers AsksForFile FileCanBeFetched c answer old new end
      → SaysNoFault (says c) → IsRunOnFile command file says told old new end
  ran_on_file command c is answer old new end a plain =
      ran FileAnswers AsksForFile FileCanBeFetched command c is answer old new end a
      (file_ends_well c plain)

  pub no_file : (command : Option C) → command ≡ None → (old : Seen)
      → IsRunOnFile command file says told old old status.Usage
  no_file = no_command FileAnswers AsksForFile FileCanBeFetched

  pub no_memory : (command : Option C) → IsSome command → (old : Seen)
      → IsRunOnFile command file says told old old status.Memory
  no_memory = out_of_memory FileAnswers AsksForFile FileCanBeFetched
