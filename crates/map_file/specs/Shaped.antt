-- The shape of what the file says.
use Rattle.std.specs.Prelude.{◌≡◌, ◌*◌, ◌<◌, ◌≤◌, List, All, length}
use Rattle.map_file.specs.declared.file.MapFile.{MapFile}
use Rattle.map_file.specs.declared.map_text.MapText.{MapText}
use Rattle.map_file.specs.declared.use_text.UseText.{UseText}

-- a dimension from 1 to 64, and as many numbers in each line
pub record HasShape (m : MapText) : Type 0 where
  pub some : 1 ≤ m.size
  pub few : m.size ≤ 64
  pub numbers : All (λ row. length row ≡ m.size) m.lines

-- all lines of the matrix and of its inverse
pub record IsMapWhole (m : MapText) : Type 0 where
  pub shape : HasShape m
  pub lines : length m.lines ≡ 2 * m.size

-- some lines are to come
pub record IsBegun (m : MapText) : Type 0 where
  pub shape : HasShape m
  pub lines : length m.lines < 2 * m.size

abbrev pub NamesMap : List MapText → UseText → Type 0
NamesMap maps u = u.map < length maps

-- each map has its lines, and each use its map
pub record IsShaped (file : MapFile) : Type 0 where
  pub maps : All IsMapWhole file.maps
  pub uses : All (NamesMap file.maps) file.uses
