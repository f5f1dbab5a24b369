-- The files of a list by their names.
use Rattle.std.specs.Prelude.{ℕ, List, map, string_bytes}
use Rattle.std.specs.FinMap.{from_entries}
use Rattle.io_face.specs.Shelf.{FilesByName}
use Rattle.io_face.specs.declared.named_file.NamedFile.{NamedFile}

abbrev pub entry_of : NamedFile → List ℕ × List ℕ
entry_of file = (string_bytes file.name, file.bytes.items)

-- the files by their names; of those with one name, the first
abbrev pub by_name : List NamedFile → FilesByName
by_name files = from_entries (map entry_of files)
