-- The argument that names the model's file.
use Rattle.std.specs.Prelude.{Bool, ◌&&◌, not, List, [], ◌∷◌, Option, Some, None, if◌then◌else◌}
use Rattle.command_words.specs.Files.{has_name_length}
use Rattle.command_words.specs.Options.{Word, is_option}

-- as long as a name, and no option
abbrev pub is_file_word : Word → Bool
is_file_word word = has_name_length word && not (is_option word)

-- the one argument, where it can name a file
abbrev pub model_word : List Word → Option Word
model_word (word ∷ []) = if is_file_word word then Some word else None
model_word _ = None
