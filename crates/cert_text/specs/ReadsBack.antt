-- What makes a text that is printed read back.
use Rattle.std.specs.Prelude.{◌≡◌, ℕ, ◌≤◌, List, All, Some}
use Rattle.ratio_core.specs.Rational.{Rational}
use Rattle.ratio_core.specs.Text.{rational_of, text_of}
use Rattle.name_index.specs.Escape.{escaped}
use Rattle.user_model.specs.declared.group.Group.{Group}
use Rattle.user_model.specs.declared.group.GroupVar.{GroupVar}
use Rattle.user_model.specs.declared.objective.Objective.{Objective}
use Rattle.user_model.specs.declared.row.Row.{Row}
use Rattle.user_model.specs.declared.undo.NextNumbers.{NextNumbers}
use Rattle.certificates.specs.declared.certificate.Certificate.{Certificate}
use Rattle.cert_core.specs.Checked.{HasEntries, model_of}
use Rattle.certificates.specs.Points.{variables_of}
use Rattle.cert_text.specs.Reading.{certificate_of}
use Rattle.cert_text.specs.Text.{certificate_text}

-- bytes that print, without the space, as escaping leaves them
abbrev pub IsGraphic : List ℕ → Type 0
IsGraphic bytes = All (λ b. (33 ≤ b) × (b ≤ 126)) bytes

abbrev pub ReadsAsItself : Rational → Type 0
ReadsAsItself q = rational_of (text_of q) ≡ Some q

-- the name is graphic, and the number reads back
pub record VariableReads (entry : GroupVar × Rational) : Type 0 where
  pub name : IsGraphic (escaped entry.0.name)
  pub number : ReadsAsItself entry.1

-- the name is graphic, and the numbers read back
pub record RowReads (entry : Row × List Rational) : Type 0 where
  pub name : IsGraphic (escaped entry.0.name)
  pub numbers : All ReadsAsItself entry.1

-- what is printed of a certificate with the right numbers of entries reads as the certificate
abbrev pub ReadsBack : List Group → List Row → Certificate → Type 0
ReadsBack groups rows certificate =
    (objective : Objective) (next : NextNumbers)
    → HasEntries (model_of groups rows objective next) certificate
    → certificate_of (variables_of groups) rows
    (certificate_text (variables_of groups) rows certificate) ≡ Some certificate

-- the right numbers of entries
abbrev pub HasItsEntries : List Group → List Row → Certificate → Type 0
HasItsEntries groups rows certificate =
    (objective : Objective) (next : NextNumbers)
    → HasEntries (model_of groups rows objective next) certificate
