-- What a shelf tells of itself, which no call changes, and what a fetch may give by that.
use Rattle.std.specs.Prelude.{◌≤◌, ℕ, Bool, IsTrue, List, length, Option, Result, Ok, Err}
use Rattle.io_face.specs.Shelf.{FilesByName, Gives, file_limit}
use Rattle.io_face.specs.declared.shelf.FetchFault.{FetchFault}
use Rattle.io_face.specs.declared.shelf.FetchFault.TheVariants.{Failed, Memory, TooLong}

-- the files, where the shelf tells them, and whether a fetch fails only where there is none
pub record Told : Type 0 where
  pub files : Option FilesByName
  pub sure : Bool

abbrev pub told_by : Option FilesByName → Bool → Told
told_by files sure = record { files = files; sure = sure }

-- what a fetch gave, by its result and the bytes that it put down
abbrev pub given_by : Result Unit FetchFault → List ℕ → Result (List ℕ) FetchFault
given_by (Ok done) bytes = Ok bytes
given_by (Err fault) bytes = Err fault

-- fetching the file of a name may give this: the file, where it is known; a failure at any time, but
-- of a sure shelf only where there is no such file; running out of memory at any time
abbrev pub MayGive : Told → List ℕ → Result (List ℕ) FetchFault → Type 0
MayGive shelf name (Ok bytes) = Gives shelf.files name (Ok bytes) × (length bytes ≤ file_limit)
MayGive shelf name (Err TooLong) = Gives shelf.files name (Err TooLong)
MayGive shelf name (Err Failed) = IsTrue shelf.sure → Gives shelf.files name (Err Failed)
MayGive shelf name (Err Memory) = Unit {0}
