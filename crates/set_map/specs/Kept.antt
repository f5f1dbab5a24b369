-- How a map is kept: by its rows and its columns.
use Rattle.std.specs.Prelude.{◌≡◌, length}
use Rattle.set_map.specs.Matrices.{IsSquare, Matrix, transposed}

pub record IsMatrixKept (rows across : Matrix) : Type 0 where
  pub square : IsSquare (length rows) rows
  pub columns : across ≡ transposed rows
