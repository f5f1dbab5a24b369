-- What a reader of lines does with the bytes that its source gives.
use Rattle.std.specs.Prelude.{◌≡◌, ℕ, ◌+◌, ◌<◌, ◌≤◌, ◌⊎◌, List, [], ◌∷◌, ◌++◌, length, take, take_while, Option}
use Rattle.std.specs.Str.Lines.{strip_carriage_return, lines}
use Rattle.std.specs.Io.KnownBytes.{prepend_known, IsAtEnd}
use Rattle.line_reader.specs.Limits.{line_limit}
use Rattle.line_reader.specs.Lines.{ended_lines, IsUnended, is_short}

-- the bytes that were read and not yet given, and how many may still be read
pub record Buffered : Type 0 where
  pub held : List ℕ
  pub room : ℕ

-- a line is held with its newline
abbrev pub HoldsLine : Buffered → Type 0
HoldsLine reader = ¬ IsUnended reader.held

-- how many bytes may still be given
abbrev pub allowance : Buffered → ℕ
allowance reader = length reader.held + reader.room

-- the bytes not yet given, where the source tells those that it has left
abbrev pub rest_of : Buffered → Option (List ℕ) → Option (List ℕ)
rest_of reader left = prepend_known reader.held left

-- what was not yet given begins with this line and its newline, and then comes what is left to give
pub record GivesLine (old : Buffered) (left : Option (List ℕ)) (new : Buffered) (left' : Option (List ℕ))
    (line : List ℕ) : Type 0 where
  pub raw : List ℕ
  pub unended : IsUnended raw
  pub stripped : line ≡ strip_carriage_return raw
  pub short : length line ≤ line_limit
  pub kept : rest_of old left ≡ prepend_known (raw ++ 10 ∷ []) (rest_of new left')
  pub counted : allowance old ≡ length (raw ++ 10 ∷ []) + allowance new

-- what was not yet given is this line, which no newline ends
pub record GivesLastLine (old : Buffered) (left left' : Option (List ℕ)) (line : List ℕ) : Type 0 where
  pub unended : IsUnended line
  pub some : 0 < length line
  pub short : length line ≤ line_limit
  pub kept : rest_of old left ≡ prepend_known line left'
  pub end : IsAtEnd left'
  pub counted : length line ≤ allowance old

-- nothing was left to give
abbrev pub GivesNothing : Buffered → Option (List ℕ) → Option (List ℕ) → Type 0
GivesNothing old left left' = IsAtEnd (rest_of old left) × (rest_of old left ≡ left')

-- no newline stands in what was taken and not given, and it is no longer than a line may be
pub record LosesPart (old : Buffered) (left left' : Option (List ℕ)) : Type 0 where
  pub part : List ℕ
  pub unended : IsUnended part
  pub short : length (strip_carriage_return part) ≤ line_limit
  pub kept : rest_of old left ≡ prepend_known part left'

-- the first line is too long
pub record HasLongLine (text : List ℕ) : Type 0 where
  pub line : List ℕ
  pub more : List (List ℕ)
  pub first : lines text ≡ line ∷ more
  pub long : line_limit < length line

-- the first line is too long, or the text is longer than it may be and no line ends within that
pub record IsTooLong (allowed : ℕ) (text : List ℕ) : Type 0 where
  pub cause : HasLongLine text ⊎ ((allowed < length text) × (ended_lines (take allowed text) ≡ []))
  pub nothing : take_while is_short (ended_lines (take allowed text)) ≡ []
