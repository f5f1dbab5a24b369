-- The rows that a file of maps uses, each with the set that it is to be in; the file's first wrong line,
-- and its first map whose matrices aren't inverse to each other or whose products exceed 128 bits.
--
--     uses_in model file       the uses, in their order
--     wrong_line model file    a use's, or else that of the wrong form, which comes after all uses
use Rattle.std.specs.Prelude.{◌≡◌, ℕ, Bool, false, not, List, [], ◌∷◌, Option, Some, None, All, bytes_eq, drop, filter, find, length, map, slice_get, slice_index_or, take, unwrap_or, ◌==◌, if◌then◌else◌}
use Rattle.std.specs.Option.{option_map_or, option_or}
use Rattle.map_file.specs.declared.file.MapFile.{MapFile}
use Rattle.map_file.specs.declared.map_text.MapText.{MapText}
use Rattle.map_file.specs.declared.use_text.UseText.{UseText}
use Rattle.mapped_certificates.specs.GoodSeen.{Use}
use Rattle.set_core.specs.declared.set.Set.{Set}
use Rattle.set_core.specs.declared.set.Set.TheVariants.{Reals}
use Rattle.set_map.specs.Fitting.{BothProductsFit}
use Rattle.set_map.specs.MappedSet.{seen_through}
use Rattle.set_map.specs.Matrices.{AreInverse, Matrix}
use Rattle.user_model.specs.declared.function.UserFunc.{UserFunc}
use Rattle.user_model.specs.declared.function.UserFunc.TheVariants.{AffineVec}
use Rattle.user_model.specs.declared.row.Row.{Row}
use Rattle.user_model.specs.Model.{ModelValue, row_named}

-- ---- maps

abbrev pub no_map : MapText
no_map = record { name = []; size = 0; lines = [] }

abbrev pub map_at : List MapText → ℕ → MapText
map_at maps place = slice_index_or maps place no_map

abbrev pub matrix_of : MapText → Matrix
matrix_of m = take m.size m.lines

abbrev pub inverse_of : MapText → Matrix
inverse_of m = drop m.size m.lines

-- its matrices are inverse to each other, and their products fit
pub record IsMap (m : MapText) : Type 0 where
  pub inverse : AreInverse (matrix_of m) (inverse_of m)
  pub fits : BothProductsFit (matrix_of m) (inverse_of m)

-- the first map whose matrices aren't inverse to each other, or whose products exceed 128 bits
pub record IsFirstBad (maps : List MapText) (bad : MapText) : Type 0 where
  pub place : ℕ
  pub here : slice_get maps place ≡ Some bad
  pub none : ¬ (IsMap bad)
  pub before : All IsMap (take place maps)

-- its name
abbrev pub NamesBad : List MapText → List ℕ → Type 0
NamesBad maps name = (bad : MapText) × IsFirstBad maps bad × (name ≡ bad.name)

-- ---- uses

-- in place of a row that isn't there
abbrev pub no_row : Row
no_row = record { id = 0; name = []; func = AffineVec []; set = Reals 0 }

abbrev pub used : ModelValue → List MapText → UseText → Use
used model maps u = record {
  row = unwrap_or (row_named model u.row) no_row;
  set = seen_through (matrix_of (map_at maps u.map)) (inverse_of (map_at maps u.map)) u.set;
}

abbrev pub uses_in : ModelValue → MapFile → List Use
uses_in model file = map (used model file.maps) file.uses

-- ---- wrong lines

-- a vector affine function of this dimension in Reals
abbrev pub is_free : ℕ → UserFunc → Set → Bool
is_free size (AffineVec fs) (Reals n) = length fs == size
is_free size func set = false

abbrev pub is_free_vector : ℕ → Row → Bool
is_free_vector size r = is_free size r.func r.set

abbrev pub named_in : List Row → List ℕ → Option Row
named_in rows name = find (λ r. bytes_eq r.name name) rows

-- the row that a use names, where its map fits it
abbrev pub usable : List MapText → Option Row → UseText → Option Row
usable maps None u = None
usable maps (Some r) u = if is_free_vector (map_at maps u.map).size r then Some r else None

abbrev pub others : List ℕ → List Row → List Row
others name rows = filter (λ r. not (bytes_eq r.name name)) rows

-- the line of the first use that names no such row among those that no earlier use names
abbrev pub wrong_use : List MapText → List Row → List UseText → Option ℕ
wrong_use maps rows [] = None
wrong_use maps rows (u ∷ uses) =
    option_map_or (λ r. wrong_use maps (others u.row rows) uses) (usable maps (named_in rows u.row) u)
    (Some u.line)

abbrev pub wrong_line : ModelValue → MapFile → Option ℕ
wrong_line model file = option_or (wrong_use file.maps model.rows file.uses) file.wrong
