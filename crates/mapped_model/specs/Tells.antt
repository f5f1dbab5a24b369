-- What the calls on a model and its maps answer.
use Rattle.std.specs.Prelude.{◌≡◌, ◌⊎◌, ℕ, ◌-◌, ◌≤◌, List, [], ◌∷◌, ◌++◌, All, Option, Some, None, Result, Ok, Err, drop, length, map, take}
use Rattle.certificates.specs.declared.certificate.Certificate.{Certificate}
use Rattle.certificates.specs.declared.certificate.Certificate.TheVariants.{Infeasible, Optimal, Unbounded}
use Rattle.map_file.specs.declared.file.MapFile.{MapFile}
use Rattle.map_file.specs.declared.map_text.MapText.{MapText}
use Rattle.map_file.specs.declared.use_text.UseText.{UseText}
use Rattle.mapped_model.specs.Uses.{IsMap, NamesBad, map_at, matrix_of, uses_in, wrong_line}
use Rattle.mapped_model.specs.declared.fault.MappingFault.{MappingFault}
use Rattle.mapped_model.specs.declared.fault.MappingFault.TheVariants as fault
use Rattle.ratio_core.specs.Rational.{Rational}
use Rattle.set_map.specs.Fitting.{AppliedFits}
use Rattle.set_map.specs.Matrices.{Matrix, applied, transposed}
use Rattle.user_model.specs.declared.row.Row.{Row}
use Rattle.user_model.specs.Model.{ModelValue}

-- the used rows, or the first wrong line
abbrev pub TellsUses : ModelValue → MapFile → Result (List Row) MappingFault → Type 0
TellsUses model file (Ok rows) =
    (wrong_line model file ≡ None) × (rows ≡ map (λ u. u.row) (uses_in model file))
TellsUses model file (Err (fault.BadMaps line)) = wrong_line model file ≡ Some line
TellsUses model file (Err fault.Memory) = Unit {0}
TellsUses model file (Err other) = ⊥

-- the matrix of a map, or that it is bad
abbrev pub TellsBad : MapText → MappingFault → Type 0
TellsBad m (fault.BadMap name) = name ≡ m.name
TellsBad m fault.Memory = Unit {0}
TellsBad m other = ⊥

abbrev pub TellsMap : MapText → Result Matrix MappingFault → Type 0
TellsMap m (Ok matrix) = IsMap m × (matrix ≡ matrix_of m)
TellsMap m (Err (fault.BadMap name)) = (¬ (IsMap m)) × (name ≡ m.name)
TellsMap m (Err fault.Memory) = Unit {0}
TellsMap m (Err other) = ⊥

-- the matrices, or the first bad map
abbrev pub TellsMaps : List MapText → Result (List Matrix) MappingFault → Type 0
TellsMaps maps (Ok matrices) = All IsMap maps × (matrices ≡ map matrix_of maps)
TellsMaps maps (Err (fault.BadMap name)) = NamesBad maps name
TellsMaps maps (Err fault.Memory) = Unit {0}
TellsMaps maps (Err other) = ⊥

-- no line is wrong, and no map is bad
pub record AreMapsRight (model : ModelValue) (file : MapFile) : Type 0 where
  pub lines : wrong_line model file ≡ None
  pub maps : All IsMap file.maps

-- ---- duals taken back

-- the matrix of a use
abbrev pub matrix_in : List MapText → UseText → Matrix
matrix_in maps u = matrix_of (map_at maps u.map)

-- each dual of a use fits when it is taken back, or the first that doesn't is that of this row
abbrev pub TakesEach : List MapText → List UseText → List (List Rational) → Option (List ℕ) → Type 0
TakesEach maps [] ys exceeds = exceeds ≡ None
TakesEach maps (u ∷ uses) [] exceeds = exceeds ≡ None
TakesEach maps (u ∷ uses) (y ∷ ys) exceeds =
    (AppliedFits (transposed (matrix_in maps u)) y × TakesEach maps uses ys exceeds)
    ⊎ ((¬ (AppliedFits (transposed (matrix_in maps u)) y)) × (exceeds ≡ Some u.row))

abbrev pub taken_each : List MapText → List UseText → List (List Rational) → List (List Rational)
taken_each maps [] ys = []
taken_each maps (u ∷ uses) [] = []
taken_each maps (u ∷ uses) (y ∷ ys) =
    applied (transposed (matrix_in maps u)) y ∷ taken_each maps uses ys

-- the duals of the other rows come first, and those of the uses are the last
abbrev pub others_in : MapFile → List (List Rational) → List (List Rational)
others_in file ys = take (length ys - length file.uses) ys

abbrev pub of_uses : MapFile → List (List Rational) → List (List Rational)
of_uses file ys = drop (length ys - length file.uses) ys

abbrev pub taken_in : MapFile → List (List Rational) → List (List Rational)
taken_in file ys = others_in file ys ++ taken_each file.maps file.uses (of_uses file ys)

abbrev pub taken_from : MapFile → Certificate → Certificate
taken_from file (Optimal value x duals vars) = Optimal value x (taken_in file duals) vars
taken_from file (Infeasible gap duals vars) = Infeasible gap (taken_in file duals) vars
taken_from file (Unbounded x d) = Unbounded x d

-- there are duals of the uses, one for each row of the use's matrix
pub record AreDualsFor (file : MapFile) (duals : List (List Rational)) : Type 0 where
  pub many : length file.uses ≤ length duals
  pub sizes : map (λ y. length y) (of_uses file duals)
      ≡ map (λ u. length (matrix_in file.maps u)) file.uses

abbrev pub HasDualsFor : MapFile → Certificate → Type 0
HasDualsFor file (Optimal value x duals vars) = AreDualsFor file duals
HasDualsFor file (Infeasible gap duals vars) = AreDualsFor file duals
HasDualsFor file (Unbounded x d) = Unit {0}

-- by the duals of the rows, if the certificate has some
abbrev pub TakesFrom : MapFile → Certificate → Option (List ℕ) → Type 0
TakesFrom file (Optimal value x duals vars) exceeds =
    TakesEach file.maps file.uses (of_uses file duals) exceeds
TakesFrom file (Infeasible gap duals vars) exceeds =
    TakesEach file.maps file.uses (of_uses file duals) exceeds
TakesFrom file (Unbounded x d) exceeds = exceeds ≡ None

abbrev pub TellsBack : MapFile → Certificate → Result Certificate MappingFault → Type 0
TellsBack file c (Ok back) = TakesFrom file c None × (back ≡ taken_from file c)
TellsBack file c (Err (fault.Overflow row)) = TakesFrom file c (Some row)
TellsBack file c (Err fault.Memory) = Unit {0}
TellsBack file c (Err other) = ⊥
