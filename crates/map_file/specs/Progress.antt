-- What the reader of the lines has so far.
use Rattle.std.specs.Prelude.{◌≡◌, ℕ, Bool, true, false, List, All, Option, Some, None}
use Rattle.std.specs.HashMap.{get_by_text}
use Rattle.std.specs.Option.{ForSome}
use Rattle.std.specs.Str.{IsUtf8}
use Rattle.map_file.specs.declared.map_text.MapText.{MapText}
use Rattle.map_file.specs.declared.reader.Reader.{Reader}
use Rattle.map_file.specs.Lines.{Progress, place_of}
use Rattle.map_file.specs.Shaped.{IsBegun, IsMapWhole, NamesMap}

abbrev pub progress_of : Reader → Progress
progress_of r = record { maps = r.maps; uses = r.uses; lacking = r.lacking }

-- a map with a new name some of whose lines are to come
pub record IsNext (maps : List MapText) (m : MapText) : Type 0 where
  pub begun : IsBegun m
  pub new : place_of maps m.name ≡ None
  pub name : IsUtf8 m.name

-- the places of the maps are found by their names, each map has its lines, and each use its map
pub record IsReaderInStep (r : Reader) : Type 0 where
  pub places : (name : List ℕ) → get_by_text r.places name ≡ place_of r.maps name
  pub whole : All IsMapWhole r.maps
  pub begun : ForSome r.lacking (IsNext r.maps)
  pub uses : All (NamesMap r.maps) r.uses

-- a line is right, and leads on; or it is wrong, and what was read is kept
abbrev pub MovesReader : Bool → Reader → Reader → Option Progress → Type 0
MovesReader true old new after = IsReaderInStep new × (after ≡ Some (progress_of new))
MovesReader false old new after = (new.maps ≡ old.maps) × (new.uses ≡ old.uses) × (after ≡ None)
