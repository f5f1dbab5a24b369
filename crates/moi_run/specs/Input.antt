-- What a run reads of its input, and where the input stops it.
use Rattle.std.specs.Prelude.{◌≡◌, ℕ, ◌<◌, ◌≤◌, ◌⊎◌, Bool, true, false, List, take, take_while, All, Any, length, Option, Some}
use Rattle.std.specs.List.{list_any}
use Rattle.std.specs.Str.Lines.{lines}
use Rattle.std.specs.Io.KnownBytes.{IsAtEnd}
use Rattle.edit_engine.specs.Lines.{heard, says_quit}
use Rattle.io_face.specs.Source.{Takes}
use Rattle.moi_run.specs.Answering.{WritesAnswers}
use Rattle.moi_run.specs.RunState.{RunState}
use Rattle.line_reader.specs.Limits.{line_limit, input_limit}
use Rattle.line_reader.specs.Lines.{ended_lines, is_short, stripped_parts}

-- a line that ends the run is in the text with its newline
abbrev pub has_quit : List ℕ → Bool
has_quit text = list_any says_quit (ended_lines text)

-- what was taken is all of the input, or has the line that ends the run
pub record IsReadToEnd (bytes : List ℕ) (left : Option (List ℕ)) : Type 0 where
  pub taken : List ℕ
  pub takes : Takes (Some bytes) left taken
  pub end : IsAtEnd left ⊎ (has_quit taken ≡ true)

-- up to its end or the line that ends the run no line is too long, nor is the input
pub record IsInputWithinLimits (bytes : List ℕ) : Type 0 where
  pub each : All (λ line. length line ≤ line_limit) (heard (lines bytes))
  pub whole : (length bytes ≤ input_limit) ⊎ (has_quit (take input_limit bytes) ≡ true)

-- up to its end or the line that ends the run a line is too long, or the input is
abbrev pub PassesLimit : List ℕ → Type 0
PassesLimit bytes = Any (λ line. line_limit < length line) (heard (lines bytes))
    ⊎ ((input_limit < length bytes) × (has_quit (take input_limit bytes) ≡ false))

-- the answers of all lines whose newline was taken were written, none of them ended the work, and
-- neither these nor what was taken of the next are too long
pub record AnswersTaken (bytes : List ℕ) (left : Option (List ℕ)) (s new : RunState)
    (wrote : List ℕ → Type 0) : Type 0 where
  pub taken : List ℕ
  pub takes : Takes (Some bytes) left taken
  pub no_quit : has_quit taken ≡ false
  pub short : All (λ part. length part ≤ line_limit) (stripped_parts taken)
  pub refused : Bool
  pub answered : WritesAnswers s (ended_lines taken) refused new wrote

-- the answers of all lines that end within the limit were written, up to the first that is too long
abbrev pub AnswersWithinLimits : List ℕ → RunState → RunState → (List ℕ → Type 0) → Type 0
AnswersWithinLimits bytes s new wrote = (refused : Bool)
    × WritesAnswers s (take_while is_short (ended_lines (take input_limit bytes))) refused new wrote

-- the work ended
pub record Ends (bytes : List ℕ) (left : Option (List ℕ)) (refused : Bool) (s new : RunState)
    (wrote : List ℕ → Type 0) : Type 0 where
  pub answered : WritesAnswers s (heard (lines bytes)) refused new wrote
  pub to_the_end : IsReadToEnd bytes left
  pub within_limits : IsInputWithinLimits bytes
