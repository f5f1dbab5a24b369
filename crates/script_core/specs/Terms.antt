-- The terms of functions.
use Rattle.std.specs.Prelude.{ℕ, Bool, List, [], ◌∷◌, Option, Some, None, option_map, ◌==◌, if◌then◌else◌}
use Rattle.std.specs.List.{list_any, before_first, after_first, slice_split}
use Rattle.ratio_core.specs.Text.{rational_of}
use Rattle.name_index.specs.Name.{name_of_token}
use Rattle.script_core.specs.declared.terms.Term.{Term}
use Rattle.script_core.specs.declared.terms.Term.TheVariants.{Linear, Constant}
use Rattle.script_core.specs.Reading.{TokenList, is}
use Rattle.script_tokens.specs.Each.{◌>>=◌, each}

abbrev pub is_star : ℕ → Bool
is_star b = b == 42

-- Q*X, parted at the first star, or Q for a constant
unfoldable pub term_of : List ℕ → Option Term
term_of token =
    if list_any is_star token then (do
      coefficient ← rational_of (before_first is_star token)
      variable ← name_of_token (after_first is_star token)
      Some (Linear (record { variable = variable; coefficient = coefficient })))
    else option_map Constant (rational_of token)

abbrev pub terms_of : TokenList → Option (List Term)
terms_of tokens = each term_of tokens

-- the terms of each component, with a token `;` between the components
abbrev pub components_of : TokenList → Option (List (List Term))
components_of tokens = each terms_of (slice_split (is ";") tokens)

-- the terms after a colon
unfoldable pub function_terms_of : TokenList → Option (List Term)
function_terms_of (colon ∷ tokens) = if is ":" colon then terms_of tokens else None
function_terms_of [] = None

-- the terms of each component after a colon
unfoldable pub component_terms_of : TokenList → Option (List (List Term))
component_terms_of (colon ∷ tokens) = if is ":" colon then components_of tokens else None
component_terms_of [] = None
