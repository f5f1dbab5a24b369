-- What the lines of a file of maps say, one after the other.
--
-- A line `map NAME D` begins a map; D lines of D numbers for the matrix and D for its inverse follow.
-- A line `use NAME ROW SET` uses an earlier map. Words are separated by single spaces. The lines are
-- counted from 1. The first wrong one ends what is read; where the file ends too early, or its last
-- line has no newline, it is the line after the last newline.
use Rattle.std.specs.Prelude.{ℕ, ◌+◌, ◌*◌, Bool, ◌&&◌, List, [], ◌∷◌, ◌++◌, Option, Some, None, bytes_eq, codes, is_none, length, nat_le, nat_lt, slice_index_or, if◌then◌else◌, ◌==◌}
use Rattle.std.specs.List.{position_from, slice_split}
use Rattle.std.specs.Str.{is_utf8}
use Rattle.std.specs.Str.Parse.{digits_value}
use Rattle.name_index.specs.Name.{name_of_token}
use Rattle.ratio_core.specs.Rational.{Rational}
use Rattle.ratio_core.specs.Text.{rational_of}
use Rattle.script_core.specs.Sets.{vector_set_of}
use Rattle.script_tokens.specs.Each.{each, ◌>>=◌}
use Rattle.script_tokens.specs.Number.{is_digits}
use Rattle.map_file.specs.declared.file.MapFile.{MapFile}
use Rattle.map_file.specs.declared.map_text.MapText.{MapText}
use Rattle.map_file.specs.declared.use_text.UseText.{UseText}

-- the maps and the uses so far, and a map whose lines are still to come
pub record Progress : Type 0 where
  pub maps : List MapText
  pub uses : List UseText
  pub lacking : Option MapText

abbrev pub no_progress : Progress
no_progress = record { maps = []; uses = []; lacking = None }

-- ---- words

abbrev pub words_of : List ℕ → List (List ℕ)
words_of line = slice_split (λ b. b == 32) line

-- the numbers of a line
abbrev pub numbers_in : List ℕ → Option (List Rational)
numbers_in line = each rational_of (words_of line)

-- a number from 1 to 64
abbrev pub sized : ℕ → Option ℕ
sized n = if nat_lt 0 n && nat_le n 64 then Some n else None

abbrev pub size_of : List ℕ → Option ℕ
size_of word = if is_digits word then sized (digits_value 10 word) else None

abbrev pub unless_empty : List ℕ → Option (List ℕ)
unless_empty word = if length word == 0 then None else Some word

-- the name of a map: UTF-8 of one byte or more
unfoldable pub map_name_of : List ℕ → Option (List ℕ)
map_name_of word = if is_utf8 word then unless_empty word else None

-- the place of the map with a name
abbrev pub place_of : List MapText → List ℕ → Option ℕ
place_of maps name = position_from (λ m. bytes_eq name m.name) 0 maps

-- the dimension of the map at a place
abbrev pub size_at : List MapText → ℕ → ℕ
size_at maps place =
    (slice_index_or maps place (record { name = []; size = 0; lines = [] })).size

-- ---- a line

-- a map that isn't there yet begins
unfoldable pub map_read : Progress → List ℕ → List ℕ → Option Progress
map_read so_far name size =
    map_name_of name >>= (λ name. size_of size >>= (λ size.
    if is_none (place_of so_far.maps name)
    then Some (record so_far { lacking = Some (record { name = name; size = size; lines = [] }) })
    else None))

-- an earlier map is used
unfoldable pub use_read : ℕ → Progress → List ℕ → List ℕ → List ℕ → Option Progress
use_read number so_far name row set =
    map_name_of name >>= (λ name. place_of so_far.maps name >>= (λ place.
    name_of_token row >>= (λ row. vector_set_of set (size_at so_far.maps place) >>= (λ set.
    Some (record so_far {
      uses = so_far.uses ++ record { map = place; row = row; set = set; line = number } ∷ [];
    })))))

-- a line of numbers of a map, which is whole with its last one
abbrev pub kept_with : Progress → MapText → Progress
kept_with so_far m =
    if nat_lt (length m.lines) (2 * m.size) then record so_far { lacking = Some m }
    else record { maps = so_far.maps ++ m ∷ []; uses = so_far.uses; lacking = None }

unfoldable pub numbers_read : Progress → MapText → List ℕ → Option Progress
numbers_read so_far m line =
    numbers_in line >>= (λ numbers.
    if length numbers == m.size
    then Some (kept_with so_far (record m { lines = m.lines ++ numbers ∷ [] })) else None)

unfoldable pub statement_read : ℕ → Progress → List (List ℕ) → Option Progress
statement_read number so_far (first ∷ name ∷ size ∷ []) =
    if bytes_eq first (codes "map") then map_read so_far name size else None
statement_read number so_far (first ∷ name ∷ row ∷ set ∷ []) =
    if bytes_eq first (codes "use") then use_read number so_far name row set else None
statement_read number so_far words = None

abbrev pub read_by : Option MapText → ℕ → Progress → List ℕ → Option Progress
read_by None number so_far line = statement_read number so_far (words_of line)
read_by (Some m) number so_far line = numbers_read so_far m line

-- what is whole of what was read
abbrev pub whole_of : Progress → Progress
whole_of so_far = record { maps = so_far.maps; uses = so_far.uses; lacking = None }

-- what a line leaves, or none where it is wrong
abbrev pub line_read : ℕ → Progress → List ℕ → Option Progress
line_read number so_far line = read_by so_far.lacking number (whole_of so_far) line

-- ---- the file

abbrev pub stopped : Progress → Option ℕ → MapFile
stopped so_far wrong = record { maps = so_far.maps; uses = so_far.uses; wrong = wrong }

-- what is after the last newline is no line; it must be empty, and no map may lack lines
abbrev pub wrong_end : ℕ → Progress → List ℕ → Option ℕ
wrong_end number so_far last =
    if length last == 0 && is_none so_far.lacking then None else Some number

abbrev pub ended : ℕ → Progress → List ℕ → MapFile
ended number so_far last = stopped so_far (wrong_end number so_far last)

unfoldable pub read_from : ℕ → Progress → List (List ℕ) → MapFile
read_from number so_far [] = ended number so_far []
read_from number so_far (last ∷ []) = ended number so_far last
read_from number so_far (line ∷ next ∷ rest) =
    elim (line_read number so_far line) [
      | Some after ↦ read_from (number + 1) after (next ∷ rest)
      | None ↦ stopped so_far (Some number)
    ]

abbrev pub file_in : List ℕ → MapFile
file_in text = read_from 1 no_progress (slice_split (λ b. b == 10) text)
