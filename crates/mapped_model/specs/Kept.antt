-- How mapped rows are kept: by the maps that were read of their file.
use Rattle.std.specs.Prelude.{◌≡◌, List, map}
use Rattle.map_file.specs.declared.file.MapFile.{MapFile}
use Rattle.map_file.specs.Shaped.{IsShaped}
use Rattle.mapped_model.specs.Uses.{matrix_of}
use Rattle.set_map.specs.Matrices.{Matrix}

pub record AreMapsOf (matrices : List Matrix) (file : MapFile) : Type 0 where
  pub shaped : IsShaped file
  pub maps : matrices ≡ map matrix_of file.maps
