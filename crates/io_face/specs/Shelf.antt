-- The files of a shelf, and what a fetch gives of them.
use Rattle.std.specs.Prelude.{◌≡◌, ℕ, ⊤, List, [], ◌++◌, length, nat_le, if◌then◌else◌, Option, Some, None, Result, Ok, Err, option_map, unwrap_or}
use Rattle.std.specs.Cmp.Lexicographic.{slice_cmp}
use Rattle.std.specs.FinMap.{FinMap, get}
use Rattle.std.specs.Io.{StartsWith}
use Rattle.std.specs.Ordering.{nat_cmp}
use Rattle.io_face.specs.declared.shelf.FetchFault.{FetchFault}
use Rattle.io_face.specs.declared.shelf.FetchFault.TheVariants.{Failed, TooLong}

-- from the bytes of a name to those of its file
abbrev pub FilesByName : Type 0
FilesByName = FinMap (slice_cmp nat_cmp) (List ℕ)

-- the most bytes of a file that is fetched
abbrev pub file_limit : ℕ
file_limit = 67108864

-- what fetching gives, by the file that is there
abbrev pub fetched_file : Option (List ℕ) → Result (List ℕ) FetchFault
fetched_file None = Err Failed
fetched_file (Some bytes) = if nat_le (length bytes) file_limit then Ok bytes else Err TooLong

-- what fetching the file of a name gives: its bytes, or why not
abbrev pub fetched : FilesByName → List ℕ → Result (List ℕ) FetchFault
fetched files name = fetched_file (get files name)

-- the names that were asked for are those before, and then these, where they are known
abbrev pub AsksFor : Option (List (List ℕ)) → Option (List (List ℕ)) → List (List ℕ) → Type 0
AsksFor old new names = new ≡ option_map (λ asked. asked ++ names) old

-- fetching the file of a name gives this, where the files are known
abbrev pub Gives : Option FilesByName → List ℕ → Result (List ℕ) FetchFault → Type 0
Gives None name given = ⊤
Gives (Some files) name given = fetched files name ≡ given

-- this is how the file of a name begins, or nothing, where the files are known
abbrev pub GivesFront : Option FilesByName → List ℕ → List ℕ → Type 0
GivesFront None name front = ⊤
GivesFront (Some files) name front = StartsWith (unwrap_or (get files name) []) front
