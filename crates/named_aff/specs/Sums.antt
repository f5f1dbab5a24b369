-- Terms and functions with one term or number more. There are none where a sum doesn't fit.
use Rattle.std.specs.Prelude.{List, [], ◌∷◌, Option, Some, None, option_and_then, option_map, bytes_eq, if◌then◌else◌}
use Rattle.ratio_core.specs.Rational.{Rational, ◌+ℚ◌, sum_fits}
use Rattle.named_aff.specs.declared.aff.NamedAff.{NamedAff}
use Rattle.named_aff.specs.declared.terms.NamedTerm.{NamedTerm}

infixl 10 ◌>>=◌
abbrev ◌>>=◌ : {A B : Type 0} → Option A → (A → Option B) → Option B
o >>= f = option_and_then f o

unfoldable pub sum_of : Rational → Rational → Option Rational
sum_of p q = if sum_fits p q then Some (p +ℚ q) else None

-- the terms with one more: it is added to the term of its variable, or else stands last
abbrev pub with_term : List NamedTerm → NamedTerm → Option (List NamedTerm)
with_term [] term = Some (term ∷ [])
with_term (t ∷ ts) term =
    if bytes_eq term.variable t.variable then (do
      sum ← sum_of t.coefficient term.coefficient
      Some (record t { coefficient = sum } ∷ ts))
    else (do
      others ← with_term ts term
      Some (t ∷ others))

-- a function with one term more
abbrev pub plus_term : NamedAff → NamedTerm → Option NamedAff
plus_term f term = option_map (λ terms. record f { terms = terms }) (with_term f.terms term)

-- a function with a number more in its constant
abbrev pub plus_constant : NamedAff → Rational → Option NamedAff
plus_constant f q = option_map (λ sum. record f { constant = sum }) (sum_of f.constant q)
