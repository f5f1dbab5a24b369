-- What is answered to the files, by what was fetched; and the end of a run with nothing against it.
use Rattle.std.specs.Prelude.{◌≡◌, ◌≢◌, ◌⊎◌, ◌≤◌, ℕ, List, [], ◌∷◌, Option, Some, None, Result, Ok, Err, IfErr, IfOk, length, refl}
use Rattle.std.specs.Result.{result_unwrap_or}
use Rattle.std.proofs.Common.{ap, arith, inl, inr, subst, sym, ◌∙◌}
use Rattle.std.proofs.lemmas.Option.{none-some, same_Some}
use Rattle.file_command.specs.Ending.{CanBeFetched, EndsWith}
use Rattle.file_command.specs.Loading.{AnswersFile, AnswersMade, AnswersRead, LoadsStored}
use Rattle.file_command.specs.LoadingLaws.{shelf_fault}
use Rattle.file_command.specs.Status.{IsAnswerWritten}
use Rattle.file_command.specs.declared.status.Status.{Status}
use Rattle.file_command.specs.declared.status.Status.TheVariants as status
use Rattle.fresh_bridging.specs.TheRules.{Setting}
use Rattle.io_face.specs.Fault.{CountsNoFault, HasFaulted}
use Rattle.io_face.specs.Shelf.{AsksFor, Gives, file_limit}
use Rattle.io_face.specs.Told.{MayGive, Told}
use Rattle.io_face.specs.ToldLaws.{asks_more}
use Rattle.io_face.specs.declared.shelf.FetchFault.{FetchFault}
use Rattle.io_face.specs.declared.shelf.FetchFault.TheVariants as fetch
use Rattle.lists.specs.declared.memory.Memory.{Memory as NoMemory}
use Rattle.map_file.specs.Lines.{file_in}
use Rattle.map_file.specs.declared.file.MapFile.{MapFile}
use Rattle.model_load.specs.Loads.{after_edits}
use Rattle.model_store.specs.Store.{StoredModel}
use Rattle.mof_fetch.specs.Fetched.{IsReadOf}
use Rattle.mof_fetch.specs.FetchedLaws.{may_fail}
use Rattle.mof_fetch.specs.declared.fault.FileFault.{FileFault}
use Rattle.mof_fetch.specs.declared.fault.FileFault.TheVariants as file
use Rattle.report_core.specs.declared.answer.Answer.{Answer}
use Rattle.report_core.specs.declared.answer.Answer.TheVariants.{Memory, ReadFault, TooLong}
use Rattle.setmap_command.specs.Files.{AsksModelAndMaps, CanBothBeFetched, FetchesFile, IsModelRead, SaysFetched, SaysOfMaps, fetch_answer}
use Rattle.setmap_command.specs.Says.{SaysFile}
use Rattle.setmap_command.specs.SaysLaws.{maps_plain}
use Rattle.user_model.specs.Model.{ModelValue, empty_model}
use Rattle.user_model.specs.declared.edit.Edit.{Edit}
use Rattle.user_model.specs.declared.refusal.Refusal.{Refusal}

-- ---- the file of the maps

-- an error has its reason
pub same_reason : {A : Type 0} (fault reason : FetchFault)
    → ◌≡◌ {A = Result A FetchFault} (Err fault) (Err reason) → fault ≡ reason
same_reason fault reason e = cc

-- `ReadFault` is the answer to a failed fetch, and to no other fault
pub told_failed : (fault : FetchFault) → fetch_answer fault ≡ ReadFault → fault ≡ fetch.Failed
told_failed fetch.Failed e = refl
told_failed fetch.TooLong e = cc
told_failed fetch.Memory e = cc

module _ (shelf : Told) (name : List ℕ) where
  -- its bytes are read, or memory runs out for that
  pub fetched_file : (text bytes read : List ℕ) (result : Result MapFile FetchFault) → text ≡ name
      → read ≡ bytes → Gives shelf.files text (Ok bytes) → length bytes ≤ file_limit
      → IfOk result (λ file. file ≡ file_in read) → IfErr result (λ fault. fault ≡ fetch.Memory)
      → FetchesFile shelf name result
  fetched_file text bytes read (Ok file) named same gives fits said memory = (
    bytes,
    (subst (λ n. Gives shelf.files n (Ok bytes)) named gives, fits),
    said ∙ ap file_in same,
  )
  fetched_file text bytes read (Err fault) named same gives fits said memory =
      subst (λ (f : FetchFault). MayGive shelf name (Err f)) (sym memory) tt

pub read_whole : (result : Result MapFile FetchFault)
    → IfErr result (λ fault. fault ≡ fetch.Memory) → result ≢ Err fetch.Failed
read_whole (Ok file) memory e = cc
read_whole (Err fault) memory e = never (sym memory ∙ same_reason {A = MapFile} fault fetch.Failed e)
  where
    never : fetch.Memory ≡ fetch.Failed → ⊥
    never f = cc

-- what is answered to it is answered to the model
pub says_fetched : (setting : Setting) (shelf : Told) (maps : List ℕ) (file : MapFile)
    (model : ModelValue) (told : Result Answer NoMemory) (answer : Answer)
    → FetchesFile shelf maps (Ok file) → IfOk told (SaysFile setting file model)
    → answer ≡ result_unwrap_or told Memory → answer ≢ Memory
    → SaysOfMaps setting shelf maps model answer
says_fetched setting shelf maps file model (Ok a) answer fetched said is not = (
  Ok fetched.0,
  fetched.1,
  subst (λ f. SaysFile setting f model answer) fetched.2
      (subst (SaysFile setting file model) (sym is) said),
)
says_fetched setting shelf maps file model (Err e) answer fetched said is not = absurd (not is)

-- and is no failure
pub never_so : (told : Result Answer NoMemory) (answer : Answer)
    → answer ≡ result_unwrap_or told Memory → told ≢ Ok ReadFault → answer ≢ ReadFault
never_so (Ok a) answer is not e = not (ap Ok (sym is ∙ e))
never_so (Err e') answer is not e = never (sym is ∙ e)
  where
    never : Memory ≡ ReadFault → ⊥
    never f = cc

-- ---- the files that are asked for

module _ (shelf : Told) (model maps : List ℕ) where
  pub asks_both : (first second third : Option (List (List ℕ))) (stored : StoredModel)
      → LoadsStored shelf model (Ok stored) → AsksFor first second (model ∷ [])
      → AsksFor second third (maps ∷ []) → AsksModelAndMaps shelf model maps (AsksFor first third)
  asks_both first second third stored loads asks more =
      inl ((stored, loads), asks_more first second third (model ∷ []) (maps ∷ []) asks more)

  pub asks_one : (first second : Option (List (List ℕ))) (answer : Answer)
      → LoadsStored shelf model (Err answer) → AsksFor first second (model ∷ []) → answer ≢ Memory
      → AsksModelAndMaps shelf model maps (AsksFor first second)
  asks_one first second answer loads asks not = inr ((answer, loads not), asks)

-- ---- which file wasn't fetched

tells_none : {answer said : Answer} {reason : FetchFault} → answer ≡ said
    → shelf_fault said ≡ None → shelf_fault answer ≡ Some reason → ⊥
tells_none {answer} {said} {reason} is none tells =
    none-some reason (sym (ap shelf_fault is ∙ none) ∙ tells)

-- the model's, or, where that makes a model, the maps'
abbrev OneFails : Told → List ℕ → List ℕ → FetchFault → Type 0
OneFails shelf model maps reason =
    MayGive shelf model (Err reason) ⊎ (IsModelRead shelf model × MayGive shelf maps (Err reason))

module _ (setting : Setting) (shelf : Told) (model maps : List ℕ) (answer : Answer)
    (reason : FetchFault) (tells : shelf_fault answer ≡ Some reason) where
  fetched_fails : (m : ModelValue) (given : Result (List ℕ) FetchFault) → MayGive shelf maps given
      → SaysFetched setting m given answer → MayGive shelf maps (Err reason)
  fetched_fails m (Ok text) may said =
      absurd (none-some reason (sym (maps_plain setting text m answer said) ∙ tells))
  fetched_fails m (Err fetch.Failed) may is =
      subst (λ (r : FetchFault). MayGive shelf maps (Err r))
      (same_Some fetch.Failed reason (sym (ap shelf_fault is) ∙ tells)) may
  fetched_fails m (Err fetch.TooLong) may is =
      subst (λ (r : FetchFault). MayGive shelf maps (Err r))
      (same_Some fetch.TooLong reason (sym (ap shelf_fault is) ∙ tells)) may
  fetched_fails m (Err fetch.Memory) may is = absurd (tells_none is refl tells)

  made_fails : (edits : List Edit) → IsReadOf shelf model (Ok edits)
      → (made : Result ModelValue Refusal) → after_edits empty_model edits ≡ made
      → AnswersMade (SaysOfMaps setting shelf maps) made answer → OneFails shelf model maps reason
  made_fails edits read (Ok m) made said =
      inr (
        (
          record { model = m; parked = [] },
          record { edits = edits; read = read; made = made; settled = refl },
        ),
        fetched_fails m said.0 said.1 said.2,
      )
  made_fails edits read (Err refusal) made is = absurd (tells_none is refl tells)

  read_fails : (read : Result (List Edit) FileFault) → IsReadOf shelf model read
      → AnswersRead (SaysOfMaps setting shelf maps) read answer → OneFails shelf model maps reason
  read_fails (Ok edits) of said =
      made_fails edits of (after_edits empty_model edits) refl said
  read_fails (Err file.Failed) of is =
      inl (may_fail shelf model (Err file.Failed) reason
      (ap Some (same_Some fetch.Failed reason (sym (ap shelf_fault is) ∙ tells))) of)
  read_fails (Err file.TooLong) of is =
      inl (may_fail shelf model (Err file.TooLong) reason
      (ap Some (same_Some fetch.TooLong reason (sym (ap shelf_fault is) ∙ tells))) of)
  read_fails (Err (file.Unread kind place)) of is = absurd (tells_none is refl tells)
  read_fails (Err file.Memory) of is = absurd (tells_none is refl tells)

one_fails : (setting : Setting) (shelf : Told) (model maps : List ℕ) (answer : Answer)
    (reason : FetchFault) → shelf_fault answer ≡ Some reason
    → AnswersFile (SaysOfMaps setting shelf maps) shelf model answer
    → OneFails shelf model maps reason
one_fails setting shelf model maps answer reason tells h =
    read_fails setting shelf model maps answer reason tells h.0 h.1 h.2

-- ---- nothing is against it

unsound : (old new : ℕ) → CountsNoFault old new → HasFaulted old new → ⊥
unsound old new sound (inl rose) = omega (arith, sound.0, sound.1, rose)
unsound old new sound (inr stands) = omega (arith, sound.0, sound.1, stands)

failed_never : (shelf : Told) (name : List ℕ) (reads reads' : ℕ)
    → CanBeFetched shelf name reads reads' → HasFaulted reads reads'
    → MayGive shelf name (Err fetch.Failed) → ⊥
failed_never shelf name reads reads' can rose gave =
    elim can.there [
      | inl quiet ↦ unsound reads reads' quiet rose
      | inr there ↦ there.1 (gave there.0)
    ]

pub both_end_well : (setting : Setting) (shelf : Told) (model maps : List ℕ) (end : Status)
    (old new : Option (List ℕ)) (reads reads' writes writes' : ℕ)
    → EndsWith (AnswersFile (SaysOfMaps setting shelf maps) shelf model) end old new
    → (end ≡ status.ReadFault → HasFaulted reads reads')
    → (end ≡ status.WriteFault → HasFaulted writes writes')
    → CanBothBeFetched shelf model maps reads reads' → CountsNoFault writes writes'
    → IsAnswerWritten end ⊎ (end ≡ status.Memory)
both_end_well setting shelf model maps status.Done old new reads reads' writes writes' h read write
    can sound = inl tt
both_end_well setting shelf model maps status.SomeRefused old new reads reads' writes writes' h
    read write can sound = inl tt
both_end_well setting shelf model maps status.Usage old new reads reads' writes writes' h read
    write can sound = absurd h
both_end_well setting shelf model maps status.ReadFault old new reads reads' writes writes' h read
    write can sound =
    elim (one_fails setting shelf model maps ReadFault fetch.Failed refl h.0) [
      | inl first ↦ absurd (failed_never shelf model reads reads' can.first (read refl) first)
      | inr second ↦ absurd (failed_never shelf maps reads reads' (can.second second.0)
          (read refl) second.1)
    ]
both_end_well setting shelf model maps status.WriteFault old new reads reads' writes writes' h read
    write can sound = absurd (unsound writes writes' sound (write refl))
both_end_well setting shelf model maps status.Memory old new reads reads' writes writes' h read
    write can sound = inr refl
both_end_well setting shelf model maps status.TooLong old new reads reads' writes writes' h read
    write can sound =
    elim (one_fails setting shelf model maps TooLong fetch.TooLong refl h.0) [
      | inl first ↦ absurd (can.first.short first)
      | inr second ↦ absurd ((can.second second.0).short second.1)
    ]
