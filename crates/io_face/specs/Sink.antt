-- What a write does to the bytes that a sink was given, where it tells them.
use Rattle.std.specs.Prelude.{◌≡◌, ℕ, ◌≤◌, List, Option, length, take}
use Rattle.std.specs.Io.KnownBytes.{append_known}

-- what is written now is what was written, and then the text
abbrev pub Adds : Option (List ℕ) → Option (List ℕ) → List ℕ → Type 0
Adds old new text = new ≡ append_known old text

-- what is written now is what was written, and then a prefix of the text
abbrev pub AddsPrefix : Option (List ℕ) → Option (List ℕ) → List ℕ → Type 0
AddsPrefix old new text = (k : ℕ) × (k ≤ length text) × Adds old new (take k text)
