-- What a read does to the bytes that a source has left, where it tells them.
use Rattle.std.specs.Prelude.{◌≡◌, ◌≤◌, ℕ, List, Option, length}
use Rattle.std.specs.Io.KnownBytes.{prepend_known}

-- what was left is the text, and then what is left now
abbrev pub Takes : Option (List ℕ) → Option (List ℕ) → List ℕ → Type 0
Takes old new text = old ≡ prepend_known text new

-- n bytes were taken, or fewer
pub record TakesAtMost (most : ℕ) (left left' : Option (List ℕ)) : Type 0 where
  pub taken : List ℕ
  pub takes : Takes left left' taken
  pub few : length taken ≤ most
