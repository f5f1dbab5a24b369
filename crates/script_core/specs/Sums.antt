-- Functions as the sums of terms, from the left. There is none where a sum doesn't fit.
use Rattle.std.specs.Prelude.{List, [], ◌∷◌, Option, Some}
use Rattle.ratio_core.specs.Rational.{zero_ℚ}
use Rattle.named_aff.specs.declared.aff.NamedAff.{NamedAff}
use Rattle.named_aff.specs.Sums.{plus_constant, plus_term}
use Rattle.script_core.specs.declared.terms.Term.{Term}
use Rattle.script_core.specs.declared.terms.Term.TheVariants.{Linear, Constant}
use Rattle.script_tokens.specs.Each.{◌>>=◌, each}

abbrev pub with_term : NamedAff → Term → Option NamedAff
with_term f (Linear term) = plus_term f term
with_term f (Constant q) = plus_constant f q

-- the function with each of the terms
abbrev pub with_terms : NamedAff → List Term → Option NamedAff
with_terms f [] = Some f
with_terms f (term ∷ terms) = do
  sum ← with_term f term
  with_terms sum terms

abbrev pub no_terms : NamedAff
no_terms = record { terms = []; constant = zero_ℚ }

unfoldable pub function_of : List Term → Option NamedAff
function_of terms = with_terms no_terms terms

abbrev pub functions_of : List (List Term) → Option (List NamedAff)
functions_of components = each function_of components
