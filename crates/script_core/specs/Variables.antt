-- Lines that create variables, by the tokens that follow their first word.
use Rattle.std.specs.Prelude.{[], ◌∷◌, length, Option, None, if◌then◌else◌}
use Rattle.name_index.specs.Name.{name_of_token}
use Rattle.set_core.specs.declared.set.Set.{Set}
use Rattle.set_core.specs.declared.set.Set.TheVariants.{Reals}
use Rattle.user_model.specs.declared.edit.Edit.TheVariants.{AddGroup}
use Rattle.script_core.specs.declared.reading.LineReading.{LineReading}
use Rattle.script_core.specs.Reading.{TokenList, is, makes, alone}
use Rattle.script_core.specs.Names.{names_of}
use Rattle.script_core.specs.Sets.{last_relation_of, vector_set_of}
use Rattle.script_tokens.specs.Each.{◌>>=◌}

-- free, which is one real number, or a relation
unfoldable pub creation_set_of : TokenList → Option Set
creation_set_of (word ∷ tokens) =
    if is "free" word then alone (Reals 1) tokens else last_relation_of word tokens
creation_set_of [] = None

-- var X free, var X REL
unfoldable pub variable_form : TokenList → Option LineReading
variable_form (variable ∷ tokens) = do
  name ← name_of_token variable
  set ← creation_set_of tokens
  makes (AddGroup (name ∷ []) set)
variable_form [] = None

-- vars SET NAMES
unfoldable pub group_form : TokenList → Option LineReading
group_form (word ∷ variables) = do
  names ← names_of variables
  set ← vector_set_of word (length names)
  makes (AddGroup names set)
group_form [] = None
