-- Terms as they are kept.
use Rattle.std.specs.Prelude.{ℕ, List, Bool, map, bytes_eq, Option, Some, None}
use Rattle.std.specs.List.{list_any}
use Rattle.ratio_core.specs.Rational.{Rational}
use Rattle.named_aff.specs.declared.terms.NamedTerm.{NamedTerm}
use Rattle.named_aff.specs.declared.sum.Kept.{Kept}
use Rattle.named_aff.specs.declared.sum.Kept.TheVariants.{Few, Many}
use Rattle.named_aff.specs.Sums.{sum_of}

-- the name of a variable with its coefficient, one after another
abbrev pub Entries : Type 0
Entries = List (List ℕ × Rational)

-- the terms that entries are
abbrev pub terms_in : Entries → List NamedTerm
terms_in entries = map (λ e. record { variable = e.0; coefficient = e.1 }) entries

-- a coefficient that may be there, and a term's own
abbrev pub coefficient_with : Option Rational → Rational → Option Rational
coefficient_with None q = Some q
coefficient_with (Some p) q = sum_of p q

-- one of the terms is of this variable
abbrev pub has_variable : List NamedTerm → List ℕ → Bool
has_variable ts name = list_any (bytes_eq name) (map (λ t. t.variable) ts)

-- the terms, few or many
abbrev pub terms_kept : Kept → List NamedTerm
terms_kept (Few ts) = ts
terms_kept (Many coefficients) = terms_in coefficients.entries
