-- Functions of variables by their names.
use Rattle.std.specs.Prelude.{ℕ, cond, List, [], ◌∷◌, ◌++◌}
use Rattle.ratio_core.specs.Rational.{Rational, rational_eq, zero_ℚ}
use Rattle.named_aff.specs.declared.terms.NamedTerm.{NamedTerm}

-- the variable's term, where its coefficient isn't 0
abbrev pub term_of : List ℕ → Rational → List NamedTerm
term_of name q = cond (rational_eq q zero_ℚ) [] (record { variable = name; coefficient = q } ∷ [])

-- the terms of variables with coefficients, one after another
abbrev pub named_terms : List (List ℕ) → List Rational → List NamedTerm
named_terms [] qs = []
named_terms (name ∷ names) [] = []
named_terms (name ∷ names) (q ∷ qs) = term_of name q ++ named_terms names qs
