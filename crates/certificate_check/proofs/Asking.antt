-- For which files a verdict asks.
use Rattle.std.specs.Prelude.{List, ℕ, [], ◌∷◌, Option, Result, Ok, Err, OnOk, refl}
use Rattle.lists.specs.declared.memory.Memory.{Memory as NoMemory}
use Rattle.model_load.specs.Loads.{after_edits}
use Rattle.io_face.specs.Shelf.{AsksFor}
use Rattle.io_face.specs.Told.{Told}
use Rattle.io_face.specs.ToldLaws.{asks_more}
use Rattle.mof_fetch.specs.Fetched.{IsReadOf}
use Rattle.mof_fetch.specs.declared.fault.FileFault.{FileFault}
use Rattle.report_core.specs.declared.answer.Answer.{Answer}
use Rattle.user_model.specs.Model.{empty_model}
use Rattle.user_model.specs.declared.edit.Edit.{Edit}
use Rattle.certificate_check.specs.Verdict.{AsksModelAndCertificate, asks_made}

-- the model's file was read, and then the certificate's was asked for, where the model was made
pub asks_both : (shelf : Told) (model certificate : List ℕ)
    (first second third : Option (List (List ℕ))) (edits : List Edit) (r : Result Answer NoMemory)
    → IsReadOf shelf model (Ok edits) → AsksFor first second (model ∷ [])
    → OnOk r (AsksFor second third (asks_made certificate (after_edits empty_model edits)))
    → OnOk r (AsksModelAndCertificate shelf model certificate (AsksFor first third))
asks_both shelf model certificate first second third edits (Ok answer) read asks more = (
  Ok edits,
  read,
  asks_more first second third (model ∷ [])
      (asks_made certificate (after_edits empty_model edits)) asks more,
)
asks_both shelf model certificate first second third edits (Err memory) read asks more = tt

-- no edits were read of it
pub asks_one : (shelf : Told) (model certificate : List ℕ) (first second : Option (List (List ℕ)))
    (fault : FileFault) → IsReadOf shelf model (Err fault) → AsksFor first second (model ∷ [])
    → AsksModelAndCertificate shelf model certificate (AsksFor first second)
asks_one shelf model certificate first second fault read asks = (Err fault, read, asks)
