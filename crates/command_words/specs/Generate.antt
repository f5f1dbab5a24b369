-- The numbers that a script is generated from, as words: SEED VARS ROWS EDITS.
use Rattle.std.specs.Prelude.{List, [], ◌∷◌, Option, None}
use Rattle.generated_script.specs.ScriptNumbers.{ScriptNumbers, in_range, numbers_of}
use Rattle.command_words.specs.Options.{Word}
use Rattle.script_tokens.specs.Each.{◌>>=◌}
use Rattle.script_tokens.specs.Number.{number_of}

-- the four numbers, each one to ten decimal digits, where they are within their limits
abbrev pub recipe_in : List Word → Option ScriptNumbers
recipe_in (seed ∷ vars ∷ rows ∷ edits ∷ []) = do
  seed ← number_of seed
  vars ← number_of vars
  rows ← number_of rows
  edits ← number_of edits
  in_range (numbers_of seed vars rows edits)
recipe_in words = None
