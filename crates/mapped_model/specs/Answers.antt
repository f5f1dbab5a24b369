-- What is answered to a model and its maps.
use Rattle.std.specs.Prelude.{◌≡◌, None, Some, Result, Ok, Err}
use Rattle.map_file.specs.declared.file.MapFile.{MapFile}
use Rattle.mapped_model.specs.Mapping.{Exceeds, IsRefused, Made, Maps}
use Rattle.mapped_model.specs.Tells.{AreMapsRight}
use Rattle.mapped_model.specs.Uses.{NamesBad, uses_in, wrong_line}
use Rattle.mapped_model.specs.declared.fault.MappingFault.{MappingFault}
use Rattle.mapped_model.specs.declared.fault.MappingFault.TheVariants as fault
use Rattle.model_store.specs.Store.{StoredModel}

-- the model with the mapped rows, and the file that they are by; or why there is none
abbrev pub MapsRows : StoredModel → MapFile → Result MapFile MappingFault → StoredModel → Type 0
MapsRows old file (Ok mapped) new =
    AreMapsRight old.model file × (mapped ≡ file)
    × Maps old.model (uses_in old.model file) (Made new.model) × (new.parked ≡ old.parked)
MapsRows old file (Err (fault.BadMaps line)) new = wrong_line old.model file ≡ Some line
MapsRows old file (Err (fault.BadMap name)) new =
    (wrong_line old.model file ≡ None) × NamesBad file.maps name
MapsRows old file (Err (fault.Refused refusal)) new =
    AreMapsRight old.model file × Maps old.model (uses_in old.model file) (IsRefused refusal)
MapsRows old file (Err (fault.Overflow row)) new =
    AreMapsRight old.model file × Maps old.model (uses_in old.model file) (Exceeds row)
MapsRows old file (Err fault.Memory) new = Unit {0}
