-- Names of variables, rows and files, alone and with a number.
use Rattle.std.specs.Prelude.{ℕ, List, [], ◌∷◌, Option, Some, None}
use Rattle.name_index.specs.Name.{name_of_token}
use Rattle.ratio_core.specs.Rational.{Rational}
use Rattle.ratio_core.specs.Text.{rational_of}
use Rattle.script_core.specs.Reading.{TokenList}
use Rattle.script_tokens.specs.Each.{◌>>=◌, each}

abbrev pub names_of : TokenList → Option (List (List ℕ))
names_of tokens = each name_of_token tokens

-- a name that nothing follows
unfoldable pub last_name_of : TokenList → Option (List ℕ)
last_name_of (token ∷ []) = name_of_token token
last_name_of _ = None

-- two names that nothing follows
unfoldable pub last_two_names_of : TokenList → Option (List ℕ × List ℕ)
last_two_names_of (token ∷ other ∷ []) = do
  first ← name_of_token token
  second ← name_of_token other
  Some (first, second)
last_two_names_of _ = None

-- a name and a number that nothing follows
unfoldable pub last_named_number_of : TokenList → Option (List ℕ × Rational)
last_named_number_of (token ∷ number ∷ []) = do
  name ← name_of_token token
  value ← rational_of number
  Some (name, value)
last_named_number_of _ = None
