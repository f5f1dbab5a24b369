-- What a line `write` prints makes the model again: a line `load` that fetches it, in a session in
-- which nothing was made yet, is accepted and leaves a model that is the same up to numbers.
use Rattle.std.specs.Prelude.{◌≡◌, ◌≢◌, ◌⊎◌, ℕ, false, true, IsTrue, List, [], ◌∷◌, Option, Some, None, Result, Ok, Err, refl}
use Rattle.std.specs.Option.{option_map_or}
use Rattle.std.proofs.Common.{ap, inl, inr, subst, sym, ◌∙◌}
use Rattle.cache_layer.specs.Answers.{IsLoaded}
use Rattle.model_load.specs.Loads.{after_edits}
use Rattle.cache_layer.specs.CacheState.{CacheState}
use Rattle.cache_layer.specs.declared.fault.EditFault.{EditFault}
use Rattle.cache_layer.specs.declared.fault.EditFault.TheVariants as edit
use Rattle.edit_engine.specs.Bare.{is_bare}
use Rattle.edit_engine.specs.LinesLaws.{does_alone}
use Rattle.edit_engine.specs.Script.{DoesBy, DoesSaid, LoadsEdits, LoadsWhere, Machine, Steps, done, file_line, load_answer}
use Rattle.file_answers.specs.FileAnswers.{refused}
use Rattle.io_face.specs.Shelf.{FilesByName, Gives, fetched}
use Rattle.io_face.specs.Told.{MayGive, Told}
use Rattle.io_face.specs.declared.shelf.FetchFault.{FetchFault}
use Rattle.io_face.specs.declared.shelf.FetchFault.TheVariants as fetch
use Rattle.mof_fetch.specs.Fetched.{read_of, walked}
use Rattle.mof_round_trip_laws.specs.Accepted.{LeadTo}
use Rattle.mof_round_trip_laws.specs.RoundTrip.{MakesAgain}
use Rattle.report_core.specs.declared.answer.Answer.{Answer}
use Rattle.report_core.specs.declared.answer.Answer.TheVariants.{Memory, Printed}
use Rattle.report_core.specs.declared.refused.Refused.TheVariants.{GroupOpen}
use Rattle.script_core.specs.Line.{line_said}
use Rattle.script_core.specs.declared.command.Command.TheVariants as line
use Rattle.user_model.specs.Edited.{edited}
use Rattle.user_model.specs.Model.{ModelValue, empty_model}
use Rattle.user_model.specs.SameUpToNumbers.{SameUpToNumbers}
use Rattle.user_model.specs.declared.edit.Edit.{Edit}

-- fetching the file of the name gives the text, or memory runs out
abbrev pub Gets : Told → List ℕ → List ℕ → Type 0
Gets shelf name text =
    (given : Result (List ℕ) FetchFault) → MayGive shelf name given
    → (given ≡ Ok text) ⊎ (given ≡ Err fetch.Memory)

-- a session with no solver and no open group in which nothing was made yet, and whose shelf has the
-- text by the name
pub record CanLoad (machine : Machine) (name text : List ℕ) : Type 0 where
  pub empty : machine.state.model ≡ empty_model
  pub free : machine.state.attached ≡ false
  pub alone : machine.group ≡ None
  pub gets : Gets machine.shelf name text

-- a line that loads the text is accepted, unless memory runs out, and leaves the model up to
-- numbers
abbrev pub LoadsAgain : ModelValue → List ℕ → Type 0
LoadsAgain model text =
    (machine : Machine) (name said : List ℕ) → CanLoad machine name text
    → line_said said ≡ Ok (line.Load name) → (answer : Answer) (new : Machine)
    → Steps machine said answer new → answer ≢ Memory
    → (answer ≡ done None) × SameUpToNumbers model new.state.model

-- a shelf that tells its files, and fails only where there is none, gives a file of it
pub told_gets : (shelf : Told) (files : FilesByName) (name text : List ℕ)
    → shelf.files ≡ Some files → IsTrue shelf.sure → fetched files name ≡ Ok text
    → Gets shelf name text
told_gets shelf files name text tells sure is = from
  where
    gives : (given : Result (List ℕ) FetchFault) → Gives shelf.files name given
        → given ≡ Ok text
    gives given may = sym (subst (λ o. Gives o name given) tells may) ∙ is

    from : Gets shelf name text
    from (Ok bytes) may = inl (gives (Ok bytes) may.0)
    from (Err fetch.TooLong) may = inl (gives (Err fetch.TooLong) may)
    from (Err fetch.Failed) may = inl (gives (Err fetch.Failed) (may sure))
    from (Err fetch.Memory) may = inr refl

-- edits that lead on, each accepted, are all made
made_by_leading : (es : List Edit) (old new : ModelValue) → LeadTo old es new
    → after_edits old es ≡ Ok new
unfolding after_edits
made_by_leading [] old new is = ap Ok is
made_by_leading (e ∷ es) old new h =
    ap (λ o. option_map_or Err o (after_edits (edited old e) es)) h.0
    ∙ made_by_leading es (edited old e) new h.1

module _ (model : ModelValue) (text : List ℕ) (makes : MakesAgain model text) where
  -- the edits are made, unless memory runs out
  loaded : (s : CacheState) → s.model ≡ empty_model
      → (given : Result Unit EditFault) (answer : Answer)
      (new : CacheState) → IsLoaded s makes.edits given new → answer ≡ load_answer given
      → answer ≢ Memory → (answer ≡ done None) × SameUpToNumbers model new.model
  loaded s empty given answer new h is fit = by given h is
    where
      made : after_edits s.model makes.edits ≡ Ok makes.made
      made =
          ap (λ m. after_edits m makes.edits) empty
          ∙ made_by_leading makes.edits empty_model makes.made makes.lead

      by : (given : Result Unit EditFault) → IsLoaded s makes.edits given new
          → answer ≡ load_answer given
          → (answer ≡ done None) × SameUpToNumbers model new.model
      by (Ok all) h is =
          let both : Ok makes.made ≡ Ok new.model = sym made ∙ h.0 in
          let same : makes.made ≡ new.model = cc in
          (is, subst (SameUpToNumbers model) same makes.same)
      by (Err (edit.Refused r)) h is =
          let both : Ok makes.made ≡ Err r = sym made ∙ h.0 in cc
      by (Err edit.Memory) h is = absurd (fit is)
      by (Err (edit.Unsupported kind)) h is = absurd h
      by (Err (edit.Overflow place)) h is = absurd h

  pub loaded_again : LoadsAgain model text
  loaded_again machine name said can is answer new steps fit =
      by (can.gets fetched.0 fetched.1)
    where
      s : CacheState
      s = machine.state

      step : LoadsWhere false true machine.shelf s name answer new.state
      step =
          subst (λ b. LoadsWhere false b machine.shelf s name answer new.state)
          (ap is_bare can.empty)
          (subst (λ b. LoadsWhere b (is_bare s.model) machine.shelf s name answer new.state)
          can.free (does_alone machine (line.Load name) new.state answer can.alone
          (subst (λ r. DoesSaid machine r answer new.state) is steps.0)))

      fetched : (given : Result (List ℕ) FetchFault) × MayGive machine.shelf name given
          × (step.0 ≡ read_of given)
      fetched = step.1

      by : (fetched.0 ≡ Ok text) ⊎ (fetched.0 ≡ Err fetch.Memory)
          → (answer ≡ done None) × SameUpToNumbers model new.state.model
      by (inl got) =
          let told = subst (λ r. LoadsEdits s r answer new.state)
          (fetched.2 ∙ ap read_of got ∙ ap walked makes.read) step.2 in
          loaded s can.empty told.0 answer new.state told.1 told.2 fit
      by (inr out) =
          absurd (fit (subst (λ r. LoadsEdits s r answer new.state)
          (fetched.2 ∙ ap read_of out) step.2).0)

-- what a line `write` prints
pub write_prints : (machine : Machine) (said text : List ℕ) (new : Machine)
    → line_said said ≡ Ok line.Write → Steps machine said (Printed text) new
    → text ≡ file_line machine.state.model
write_prints machine said text new is steps =
    by machine.group (subst (λ r. DoesSaid machine r (Printed text) new.state) is steps.0)
  where
    by : (open_group : Option (List Edit)) → DoesBy open_group machine line.Write (Printed text) new.state
        → text ≡ file_line machine.state.model
    by None does =
        let told : Printed text ≡ Printed (file_line machine.state.model) = does.0 in cc
    by (Some edits) does =
        let told : Printed text ≡ refused GroupOpen = does.0 in cc
