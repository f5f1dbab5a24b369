-- What is answered to the files of a model and of its maps, and which of them are asked for.
use Rattle.std.specs.Prelude.{◌≡◌, ◌⊎◌, ℕ, List, [], ◌∷◌, Result, Ok, Err}
use Rattle.file_command.specs.Ending.{CanBeFetched}
use Rattle.file_command.specs.Loading.{AnswersFile, IsModelOf}
use Rattle.fresh_bridging.specs.TheRules.{Setting}
use Rattle.io_face.specs.Told.{MayGive, Told}
use Rattle.io_face.specs.declared.shelf.FetchFault.{FetchFault}
use Rattle.io_face.specs.declared.shelf.FetchFault.TheVariants as fetch
use Rattle.map_file.specs.Lines.{file_in}
use Rattle.map_file.specs.declared.file.MapFile.{MapFile}
use Rattle.model_store.specs.Store.{StoredModel}
use Rattle.report_core.specs.declared.answer.Answer.{Answer}
use Rattle.report_core.specs.declared.answer.Answer.TheVariants.{Memory, ReadFault, TooLong}
use Rattle.setmap_command.specs.Says.{SaysMaps}
use Rattle.user_model.specs.Model.{ModelValue}

abbrev pub fetch_answer : FetchFault → Answer
fetch_answer fetch.Failed = ReadFault
fetch_answer fetch.TooLong = TooLong
fetch_answer fetch.Memory = Memory

-- the text of the maps, or why there is none
abbrev pub SaysFetched : Setting → ModelValue → Result (List ℕ) FetchFault → Answer → Type 0
SaysFetched setting model (Ok text) answer = SaysMaps setting text model answer
SaysFetched setting model (Err fault) answer = answer ≡ fetch_answer fault

-- what the file of a name says of maps, or why it isn't fetched
abbrev pub FetchesFile : Told → List ℕ → Result MapFile FetchFault → Type 0
FetchesFile shelf name (Ok file) =
    (text : List ℕ) × MayGive shelf name (Ok text) × (file ≡ file_in text)
FetchesFile shelf name (Err fault) = MayGive shelf name (Err fault)

-- for a model the file of the maps is fetched
abbrev pub SaysOfMaps : Setting → Told → List ℕ → ModelValue → Answer → Type 0
SaysOfMaps setting shelf maps model answer =
    (given : Result (List ℕ) FetchFault) × MayGive shelf maps given
    × SaysFetched setting model given answer

-- ---- the files that are asked for

-- the model's file is read as a model
abbrev pub IsModelRead : Told → List ℕ → Type 0
IsModelRead shelf model = (stored : StoredModel) × IsModelOf shelf model stored

-- or this is why not
abbrev pub IsNotMade : Told → List ℕ → Type 0
IsNotMade shelf model = (answer : Answer) × AnswersFile (λ made said. ⊥) shelf model answer

-- the model's file, and after that the maps', where the model was made
abbrev pub AsksModelAndMaps : Told → List ℕ → List ℕ → (List (List ℕ) → Type 0) → Type 0
AsksModelAndMaps shelf model maps asked =
    (IsModelRead shelf model × asked (model ∷ maps ∷ []))
    ⊎ (IsNotMade shelf model × asked (model ∷ []))

-- nothing speaks against fetching the model's file, nor the maps' where the model is made
pub record CanBothBeFetched (shelf : Told) (model maps : List ℕ) (old new : ℕ) : Type 0 where
  pub first : CanBeFetched shelf model old new
  pub second : IsModelRead shelf model → CanBeFetched shelf maps old new
