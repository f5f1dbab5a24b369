-- What the steps of the way back answer.
use Rattle.std.specs.Prelude.{◌≡◌, ◌++◌, ℕ, List, Some, None, Result, Ok, Err}
use Rattle.map_file.specs.declared.file.MapFile.{MapFile}
use Rattle.map_file.specs.declared.map_text.MapText.{MapText}
use Rattle.map_file.specs.declared.use_text.UseText.{UseText}
use Rattle.mapped_model.specs.Tells.{TakesEach, of_uses, taken_each, taken_in}
use Rattle.mapped_model.specs.declared.fault.MappingFault.{MappingFault}
use Rattle.mapped_model.specs.declared.fault.MappingFault.TheVariants as fault
use Rattle.ratio_core.specs.Rational.{Rational}
use Rattle.set_map.specs.Fitting.{AppliedFits}
use Rattle.set_map.specs.Matrices.{Matrix, applied, transposed}

-- the duals of a use
abbrev pub TellsDual : Matrix → List ℕ → List Rational → Result (List Rational) MappingFault → Type 0
TellsDual matrix row y (Ok w) =
    AppliedFits (transposed matrix) y × (w ≡ applied (transposed matrix) y)
TellsDual matrix row y (Err (fault.Overflow name)) =
    (¬ (AppliedFits (transposed matrix) y)) × (name ≡ row)
TellsDual matrix row y (Err fault.Memory) = Unit {0}
TellsDual matrix row y (Err other) = ⊥

-- those of all uses, behind others
abbrev pub TellsEach : List MapText → List UseText → List (List Rational) → List (List Rational)
    → Result (List (List Rational)) MappingFault → Type 0
TellsEach maps uses ys before (Ok after) =
    TakesEach maps uses ys None × (after ≡ before ++ taken_each maps uses ys)
TellsEach maps uses ys before (Err (fault.Overflow row)) = TakesEach maps uses ys (Some row)
TellsEach maps uses ys before (Err fault.Memory) = Unit {0}
TellsEach maps uses ys before (Err other) = ⊥

-- all duals
abbrev pub TellsDuals : MapFile → List (List Rational) → Result (List (List Rational)) MappingFault
    → Type 0
TellsDuals file ys (Ok after) =
    TakesEach file.maps file.uses (of_uses file ys) None × (after ≡ taken_in file ys)
TellsDuals file ys (Err (fault.Overflow row)) =
    TakesEach file.maps file.uses (of_uses file ys) (Some row)
TellsDuals file ys (Err fault.Memory) = Unit {0}
TellsDuals file ys (Err other) = ⊥
