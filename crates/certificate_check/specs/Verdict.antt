-- What is answered to the files of a model and of a certificate.
use Rattle.std.specs.Prelude.{◌≡◌, ℕ, ◌⊎◌, List, [], ◌∷◌, ◌++◌, Option, Some, None, Result, Ok, Err, codes}
use Rattle.model_load.specs.Loads.{after_edits}
use Rattle.cert_core.specs.Folds.{CertificateFits}
use Rattle.certificates.specs.Points.{variables_of}
use Rattle.cert_text.specs.Reading.{certificate_of}
use Rattle.certificates.specs.declared.certificate.Certificate.{Certificate}
use Rattle.certificates.specs.Good.{Good}
use Rattle.file_answers.specs.FileAnswers.{fault_answer, refused}
use Rattle.io_face.specs.Told.{MayGive, Told}
use Rattle.io_face.specs.declared.shelf.FetchFault.{FetchFault}
use Rattle.io_face.specs.declared.shelf.FetchFault.TheVariants as fetch
use Rattle.mof_fetch.specs.Fetched.{IsReadOf}
use Rattle.mof_fetch.specs.declared.fault.FileFault.{FileFault}
use Rattle.report_core.specs.Refused.{refused_of}
use Rattle.report_core.specs.Words.{newline}
use Rattle.report_core.specs.declared.answer.Answer.{Answer}
use Rattle.report_core.specs.declared.answer.Answer.TheVariants.{Memory, Printed, ReadFault, TooLong}
use Rattle.report_core.specs.declared.refused.Place.TheVariants.{Check}
use Rattle.report_core.specs.declared.refused.Refused.TheVariants.{Overflow}
use Rattle.user_model.specs.Model.{ModelValue, empty_model}
use Rattle.user_model.specs.declared.edit.Edit.{Edit}
use Rattle.user_model.specs.declared.refusal.Refusal.{Refusal}

abbrev pub yes : Answer
yes = Printed (codes "yes" ++ newline)

abbrev pub no : Answer
no = Printed (codes "no" ++ newline)

-- a certificate of a model: `yes` where all that is multiplied and added fits and it is good, `no`
-- where all fits and it isn't, and a refusal where something doesn't fit
abbrev pub Judges : ModelValue → Certificate → Answer → Type 0
Judges model c answer =
    (CertificateFits model c
    × ((Good model c × (answer ≡ yes)) ⊎ (¬ (Good model c) × (answer ≡ no))))
    ⊎ (¬ (CertificateFits model c) × (answer ≡ refused (Overflow Check)))

abbrev pub IsThisAnswer : Answer → Answer → Type 0
IsThisAnswer said answer = answer ≡ said

-- a text that isn't a certificate's for the model is `no`
abbrev pub JudgesText : ModelValue → Option Certificate → Answer → Type 0
JudgesText model None = IsThisAnswer no
JudgesText model (Some c) = Judges model c

abbrev pub fetch_answer : FetchFault → Answer
fetch_answer fetch.Failed = ReadFault
fetch_answer fetch.TooLong = TooLong
fetch_answer fetch.Memory = Memory

-- the file of the certificate
abbrev pub JudgesFile : ModelValue → Result (List ℕ) FetchFault → Answer → Type 0
JudgesFile model (Ok text) =
    JudgesText model (certificate_of (variables_of model.groups) model.rows text)
JudgesFile model (Err fault) = IsThisAnswer (fetch_answer fault)

-- for a model the certificate is fetched
abbrev pub FetchesText : Told → List ℕ → ModelValue → Answer → Type 0
FetchesText shelf certificate model answer =
    (given : Result (List ℕ) FetchFault) × MayGive shelf certificate given
    × JudgesFile model given answer

-- the model that the edits make, or their first refusal
abbrev pub JudgesMade : Told → List ℕ → Result ModelValue Refusal → Answer → Type 0
JudgesMade shelf certificate (Ok model) = FetchesText shelf certificate model
JudgesMade shelf certificate (Err refusal) = IsThisAnswer (refused (refused_of refusal))

-- the file of this name may be read, and its edits make a model
pub record MakesModel (shelf : Told) (name : List ℕ) : Type 0 where
  pub edits : List Edit
  pub model : ModelValue
  pub read : IsReadOf shelf name (Ok edits)
  pub made : after_edits empty_model edits ≡ Ok model

-- the edits of the model's file, or why there are none
abbrev pub JudgesRead : Told → List ℕ → Result (List Edit) FileFault → Answer → Type 0
JudgesRead shelf certificate (Ok edits) =
    JudgesMade shelf certificate (after_edits empty_model edits)
JudgesRead shelf certificate (Err fault) = IsThisAnswer (fault_answer fault)

-- what is answered to two files of a shelf, by their names
abbrev pub IsVerdict : Told → List ℕ → List ℕ → Answer → Type 0
IsVerdict shelf model certificate answer =
    (read : Result (List Edit) FileFault) × IsReadOf shelf model read
    × JudgesRead shelf certificate read answer

-- ---- the files that are asked for

-- the certificate's, where the model was made
abbrev pub asks_made : List ℕ → Result ModelValue Refusal → List (List ℕ)
asks_made certificate (Ok model) = certificate ∷ []
asks_made certificate (Err refusal) = []

abbrev pub asks_read : List ℕ → Result (List Edit) FileFault → List (List ℕ)
asks_read certificate (Ok edits) = asks_made certificate (after_edits empty_model edits)
asks_read certificate (Err fault) = []

-- the model's file, and after that the certificate's, where the model was made
abbrev pub AsksModelAndCertificate : Told → List ℕ → List ℕ → (List (List ℕ) → Type 0) → Type 0
AsksModelAndCertificate shelf model certificate asked =
    (read : Result (List Edit) FileFault) × IsReadOf shelf model read
    × asked (model ∷ asks_read certificate read)
