-- Edits that are accepted.
use Rattle.std.specs.Prelude.{◌≡◌, None}
use Rattle.user_model.specs.declared.edit.Edit.{Edit}
use Rattle.user_model.specs.Model.{ModelValue}
use Rattle.user_model.specs.Edited.{edited}
use Rattle.user_model.specs.Refusals.{first_refusal}
use Rattle.user_model.specs.Valid.{IsValid}

-- an accepted edit leads from one model to the other
pub record LeadsTo (old new : ModelValue) : Type 0 where
  pub valid : IsValid old
  pub edit : Edit
  pub accepted : first_refusal old edit ≡ None
  pub after : edited old edit ≡ new
