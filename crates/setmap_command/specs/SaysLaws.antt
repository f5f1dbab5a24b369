-- What is answered to a model and its maps is no fault of the shelf.
use Rattle.std.specs.Prelude.{◌≡◌, ℕ, List, Option, Some, None, refl}
use Rattle.std.proofs.Common.{inl, inr}
use Rattle.certificates.specs.declared.certificate.Certificate.{Certificate}
use Rattle.file_command.specs.LoadingLaws.{same_fault, shelf_fault}
use Rattle.fresh_bridging.specs.TheRules.{Setting}
use Rattle.map_file.specs.declared.file.MapFile.{MapFile}
use Rattle.map_file.specs.Lines.{file_in}
use Rattle.mapped_model.specs.Mapping.{Mapped, Made, IsRefused, Exceeds}
use Rattle.mapped_model.specs.Uses.{wrong_line}
use Rattle.model_command.specs.Alone.{alone}
use Rattle.model_command.specs.SolvedLaws.{solved_plain}
use Rattle.report_core.specs.declared.answer.Answer.{Answer}
use Rattle.setmap_command.specs.Says.{SaysBack, SaysBy, SaysFile, SaysMapped, SaysMappedCertificate, SaysMaps}
use Rattle.user_model.specs.Model.{ModelValue}

module _ (model : ModelValue) (file : MapFile) (answer : Answer) where
  back_plain : (new : ModelValue) (c : Certificate) (exceeds : Option (List ℕ))
      → SaysBack model file new c exceeds answer → shelf_fault answer ≡ None
  back_plain new c (Some row) h = same_fault answer _ h refl
  back_plain new c None h = same_fault answer _ h.2 refl

  certificate_plain : (new : ModelValue) (c : Certificate)
      → SaysMappedCertificate model file new c answer → shelf_fault answer ≡ None
  certificate_plain new c h = back_plain new c h.0 h.2

  mapped_plain : (setting : Setting) (what : Mapped) → SaysMapped setting file model what answer
      → shelf_fault answer ≡ None
  mapped_plain setting (Made new) h =
      solved_plain (SaysMappedCertificate model file new) answer (certificate_plain new)
      (alone setting new) h
  mapped_plain setting (IsRefused refusal) h = same_fault answer _ h refl
  mapped_plain setting (Exceeds row) h = same_fault answer _ h refl

  file_plain : (setting : Setting) (wrong : Option ℕ) → SaysBy setting file model wrong answer
      → shelf_fault answer ≡ None
  file_plain setting (Some line) h = same_fault answer _ h refl
  file_plain setting None (inl h) = same_fault answer _ h.2 refl
  file_plain setting None (inr h) = mapped_plain setting h.1.0 h.1.2

pub said_plain : (setting : Setting) (file : MapFile) (model : ModelValue) (answer : Answer)
    → SaysFile setting file model answer → shelf_fault answer ≡ None
said_plain setting file model answer h =
    file_plain model file answer setting (wrong_line model file) h

pub maps_plain : (setting : Setting) (text : List ℕ) (model : ModelValue) (answer : Answer)
    → SaysMaps setting text model answer → shelf_fault answer ≡ None
maps_plain setting text = said_plain setting (file_in text)
