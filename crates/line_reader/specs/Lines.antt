-- The lines of a script, and how long they may be.
use Rattle.std.specs.Prelude.{◌≡◌, ℕ, ◌==◌, Bool, false, List, [], ◌∷◌, length, map, nat_le, All}
use Rattle.std.specs.List.{slice_split}
use Rattle.std.specs.Str.Lines.{strip_carriage_return}
use Rattle.line_reader.specs.Limits.{line_limit}

-- the parts of a text between newlines, each without the one carriage return at its end
abbrev pub stripped_parts : List ℕ → List (List ℕ)
stripped_parts text = map strip_carriage_return (slice_split (λ byte. byte == 10) text)

-- all parts between newlines but the last, each without the one carriage return at its end
abbrev pub ended_parts : List (List ℕ) → List (List ℕ)
ended_parts [] = []
ended_parts (part ∷ []) = []
ended_parts (part ∷ next ∷ more) = strip_carriage_return part ∷ ended_parts (next ∷ more)

-- the lines whose newline stands in the text
abbrev pub ended_lines : List ℕ → List (List ℕ)
ended_lines text = ended_parts (slice_split (λ byte. byte == 10) text)

-- no newline stands in the text
abbrev pub IsUnended : List ℕ → Type 0
IsUnended text = All (λ byte. (byte == 10) ≡ false) text

-- the line may be read
abbrev pub is_short : List ℕ → Bool
is_short line = nat_le (length line) line_limit
