-- The words of files among the words of a command.
use Rattle.std.specs.Prelude.{Bool, ◌&&◌, not, nat_le, List, [], ◌∷◌, length, if◌then◌else◌}
use Rattle.name_index.specs.Name.{longest_name}
use Rattle.command_words.specs.declared.files.FileWords.{FileWords}
use Rattle.command_words.specs.declared.files.FileWords.TheVariants.{None, One, Two}
use Rattle.command_words.specs.Options.{Word, is_joined, is_option}

-- as long as a name
abbrev pub has_name_length : Word → Bool
has_name_length word = nat_le 1 (length word) && nat_le (length word) longest_name

unfoldable mutual
  -- the words that are neither options nor their values
  pub files_of : List Word → List Word
  files_of [] = []
  files_of (word ∷ words) =
      if not (is_option word) then word ∷ files_of words
      else (if is_joined word then files_of words else files_after_value words)

  -- the same where the first word is the value of an option
  pub files_after_value : List Word → List Word
  files_after_value [] = []
  files_after_value (value ∷ words) = files_of words

-- those that were given
abbrev pub files_in : FileWords → List Word
files_in None = []
files_in (One first) = first.now ∷ []
files_in (Two first second) = first.now ∷ second.now ∷ []
