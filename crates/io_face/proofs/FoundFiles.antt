-- A file found by its name in a list is the one that stands there by name.
use Rattle.std.proofs.Common.{◌≡◌, ℕ, Bool, true, false, cond, List, [], ◌∷◌, Option, Some, map, refl, sym, ◌∙◌, nat_cmp}
use Rattle.std.specs.Cmp.Lexicographic.{slice_cmp}
use Rattle.std.specs.FinMap.{get, get-from_entries}
use Rattle.std.specs.FinMap.Entries as entries
use Rattle.std.specs.List.{find}
use Rattle.std.specs.Option.{option_map}
use Rattle.std.specs.Prelude.{string_bytes}
use Rattle.std.specs.Str.{bytes_eq}
use Rattle.std.proofs.lemmas.Cmp.{nat_list_cmp_total}
use Rattle.std.proofs.lemmas.Map.Text.{is_eq-slice_cmp}
use Rattle.io_face.specs.NamedFile.{by_name, entry_of}
use Rattle.io_face.specs.declared.named_file.NamedFile.{NamedFile}

abbrev pub bytes_of : NamedFile → List ℕ
bytes_of file = file.bytes.items

-- the first file with the name
abbrev pub found_in : List ℕ → List NamedFile → Option NamedFile
found_in name files = find (λ file. bytes_eq name (string_bytes file.name)) files

first_or : (b c : Bool) (file : NamedFile) (rest : Option NamedFile) (left : Option (List ℕ))
    → b ≡ c → option_map bytes_of rest ≡ left
    → option_map bytes_of (cond c (Some file) rest) ≡ cond b (Some file.bytes.items) left
first_or b true file rest left e h = rw e refl
first_or b false file rest left e h = rw e h

found_entry : (name : List ℕ) (files : List NamedFile)
    → option_map bytes_of (found_in name files)
    ≡ entries.find (slice_cmp nat_cmp) name (map entry_of files)
found_entry name [] = refl
found_entry name (file ∷ files) = first_or _ _ file (found_in name files) _
    (is_eq-slice_cmp name (string_bytes file.name)) (found_entry name files)

pub found_by_name : (name : List ℕ) (files : List NamedFile)
    → option_map bytes_of (found_in name files) ≡ get (by_name files) name
found_by_name name files =
    found_entry name files ∙ sym (get-from_entries nat_list_cmp_total (map entry_of files) name)
