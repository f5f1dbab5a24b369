-- What the steps to the model with the mapped rows answer.
use Rattle.std.specs.Prelude.{◌≡◌, ◌++◌, ℕ, Bool, true, false, List, Option, Some, None, Result, Ok, Err, map}
use Rattle.std.specs.List.{list_any}
use Rattle.map_file.specs.declared.file.MapFile.{MapFile}
use Rattle.mapped_model.specs.Mapping.{AreEditsFor, FitsMap, is_lone, mapped_functions}
use Rattle.mapped_model.specs.Tells.{AreMapsRight}
use Rattle.mapped_model.specs.Uses.{NamesBad, matrix_of, uses_in, wrong_line}
use Rattle.mapped_model.specs.declared.fault.MappingFault.{MappingFault}
use Rattle.mapped_model.specs.declared.fault.MappingFault.TheVariants as fault
use Rattle.mapped_model.specs.declared.mapping.MappingPlan.{MappingPlan}
use Rattle.model_load.specs.Loads.{after_edits}
use Rattle.model_store.specs.Store.{StoredModel}
use Rattle.set_map.specs.Matrices.{Matrix}
use Rattle.user_model.specs.declared.edit.Edit.{Edit}
use Rattle.user_model.specs.declared.function.UserFunc.{UserFunc}
use Rattle.user_model.specs.declared.function.UserFunc.TheVariants.{AffineVec}
use Rattle.user_model.specs.declared.refusal.Refusal.TheVariants.{BadDimension}
use Rattle.user_model.specs.declared.row.Row.{Row}
use Rattle.user_model.specs.Model.{ModelValue}
use Rattle.user_model.specs.Valid.{IsValid}

-- M f, or none where it doesn't fit
abbrev pub IsMappedFunction : Matrix → Row → Option UserFunc → Type 0
IsMappedFunction matrix row (Some func) =
    FitsMap matrix row × (func ≡ AffineVec (mapped_functions matrix row))
IsMappedFunction matrix row None = ¬ (FitsMap matrix row)

-- the edits come last, where M f fits
abbrev pub Pushes : Bool → Matrix → Row → List Edit → List Edit → List Edit → Type 0
Pushes true matrix row before more after = FitsMap matrix row × (after ≡ before ++ more)
Pushes false matrix row before more after = (¬ (FitsMap matrix row)) × (after ≡ before)

-- what is to be done to the model with its maps
pub record IsMappingPlan (model : ModelValue) (file : MapFile) (plan : MappingPlan) : Type 0 where
  pub valid : IsValid model
  pub right : AreMapsRight model file
  pub many : list_any (λ u. is_lone u.set) file.uses ≡ false
  pub maps : plan.maps.items ≡ map matrix_of file.maps
  pub edits : AreEditsFor model (uses_in model file) plan.edits.edits.items plan.edits.exceeds

abbrev pub PlansMapping : ModelValue → MapFile → Result MappingPlan MappingFault → Type 0
PlansMapping model file (Ok plan) = IsMappingPlan model file plan
PlansMapping model file (Err (fault.BadMaps line)) = wrong_line model file ≡ Some line
PlansMapping model file (Err (fault.BadMap name)) =
    (wrong_line model file ≡ None) × NamesBad file.maps name
PlansMapping model file (Err (fault.Refused refusal)) =
    AreMapsRight model file × (list_any (λ u. is_lone u.set) file.uses ≡ true)
    × (refusal ≡ BadDimension)
PlansMapping model file (Err (fault.Overflow row)) = ⊥
PlansMapping model file (Err fault.Memory) = Unit {0}

-- edits are made on a model, or one is refused
abbrev pub MakesEdits : StoredModel → List Edit → Result Unit MappingFault → StoredModel → Type 0
MakesEdits old edits (Ok done) new =
    (after_edits old.model edits ≡ Ok new.model) × (new.parked ≡ old.parked)
MakesEdits old edits (Err (fault.Refused refusal)) new = after_edits old.model edits ≡ Err refusal
MakesEdits old edits (Err fault.Memory) new = Unit {0}
MakesEdits old edits (Err other) new = ⊥

-- why edits before a row whose numbers exceed 128 bits aren't made: the first that is refused, or else
-- that row
abbrev pub TellsUnmade : ModelValue → List Edit → List ℕ → MappingFault → Type 0
TellsUnmade model edits row (fault.Refused refusal) = after_edits model edits ≡ Err refusal
TellsUnmade model edits row (fault.Overflow name) =
    ((new : ModelValue) × (after_edits model edits ≡ Ok new)) × (name ≡ row)
TellsUnmade model edits row fault.Memory = Unit {0}
TellsUnmade model edits row other = ⊥
