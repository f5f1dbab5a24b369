-- What is answered to a model and the text of its maps, by what the text, the maps, the edits' limits,
-- the bridging, the solver and the way back say, and what a printed certificate says: it is good for
-- the model with the used rows in their cones seen through the maps, and shows what it says of the
-- points that meet them.
use Rattle.std.specs.Prelude.{◌≡◌, ◌⊎◌, ℕ, List, All, Option, Some, None}
use Rattle.cert_text.specs.Text.{certificate_text}
use Rattle.certificates.specs.declared.certificate.Certificate.{Certificate}
use Rattle.certificates.specs.Points.{variables_of}
use Rattle.file_answers.specs.FileAnswers.{refused}
use Rattle.fresh_bridging.specs.TheRules.{Setting}
use Rattle.map_file.specs.declared.file.MapFile.{MapFile}
use Rattle.map_file.specs.declared.map_text.MapText.{MapText}
use Rattle.map_file.specs.Lines.{file_in}
use Rattle.mapped_certificates.specs.GoodSeen.{GoodMapped}
use Rattle.mapped_certificates.specs.ShowsSeen.{ShowsMapped}
use Rattle.mapped_model.specs.Mapping.{Mapped, Maps, Made, IsRefused, Exceeds}
use Rattle.mapped_model.specs.Stands.{StandsFor}
use Rattle.mapped_model.specs.Tells.{TakesFrom, taken_from}
use Rattle.mapped_model.specs.Uses.{IsFirstBad, IsMap, uses_in, wrong_line}
use Rattle.model_command.specs.Alone.{alone}
use Rattle.model_command.specs.Solved.{SaysSolved}
use Rattle.report_core.specs.Refused.{refused_of}
use Rattle.report_core.specs.declared.answer.Answer.{Answer}
use Rattle.report_core.specs.declared.answer.Answer.TheVariants.{Printed}
use Rattle.setmap_command.specs.Text.{bad_map, bad_maps, row_overflow}
use Rattle.user_model.specs.Model.{ModelValue}

-- the model is one with the mapped rows
abbrev pub StandsForMapped : MapFile → ModelValue → Type 0
StandsForMapped file new = (model : ModelValue) × StandsFor model (uses_in model file) new

-- ---- to the model with the mapped rows

module _ (model : ModelValue) (file : MapFile) (new : ModelValue) where
  -- the certificate that is printed is good for the mapped rows, and shows what it says of the points
  -- that meet them
  abbrev pub SaysBack : Certificate → Option (List ℕ) → Answer → Type 0
  SaysBack c (Some row) answer = answer ≡ row_overflow row
  SaysBack c None answer =
      GoodMapped model (uses_in model file) (taken_from file c)
      × ShowsMapped model (uses_in model file) (taken_from file c)
      × (answer ≡ Printed
      (certificate_text (variables_of new.groups) new.rows (taken_from file c)))

  abbrev pub SaysMappedCertificate : Certificate → Answer → Type 0
  SaysMappedCertificate c answer =
      (exceeds : Option (List ℕ)) × TakesFrom file c exceeds × SaysBack c exceeds answer

-- ---- to a model and what its maps say

module _ (setting : Setting) (file : MapFile) (model : ModelValue) where
  -- the model with the mapped rows, or why there is none
  abbrev pub SaysMapped : Mapped → Answer → Type 0
  SaysMapped (Made new) answer =
      SaysSolved (SaysMappedCertificate model file new) (alone setting new) answer
  SaysMapped (IsRefused refusal) answer = answer ≡ refused (refused_of refusal)
  SaysMapped (Exceeds row) answer = answer ≡ row_overflow row

  abbrev pub SaysRight : Answer → Type 0
  SaysRight answer =
      (what : Mapped) × Maps model (uses_in model file) what × SaysMapped what answer

  -- the first bad map
  abbrev pub SaysBadMap : Answer → Type 0
  SaysBadMap answer =
      (bad : MapText) × IsFirstBad file.maps bad × (answer ≡ bad_map bad.name)

  -- by the first wrong line
  abbrev pub SaysBy : Option ℕ → Answer → Type 0
  SaysBy (Some line) answer = answer ≡ bad_maps line
  SaysBy None answer = SaysBadMap answer ⊎ (All IsMap file.maps × SaysRight answer)

  abbrev pub SaysFile : Answer → Type 0
  SaysFile answer = SaysBy (wrong_line model file) answer

-- what is answered to a model and the text of its maps
abbrev pub SaysMaps : Setting → List ℕ → ModelValue → Answer → Type 0
SaysMaps setting text model answer = SaysFile setting (file_in text) model answer
