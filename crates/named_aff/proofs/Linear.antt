-- Terms kept as entries, and one more.
use Rattle.std.proofs.Common.{◌≡◌, ℕ, Bool, true, false, cond, Option, Some, None, List, [], ◌∷◌, ◌++◌, refl, sym, ap, ◌∙◌}
use Rattle.std.specs.Map.{lookup}
use Rattle.std.specs.Option.{option_and_then, option_map}
use Rattle.std.specs.Prelude.{Result, Ok, Err}
use Rattle.std.specs.Result.{OkIff, result_ok}
use Rattle.std.specs.Str.{bytes_eq}
use Rattle.indexmap.specs.IndexMap.{insert_entry}
use Rattle.named_aff.specs.declared.terms.NamedTerm.{NamedTerm}
use Rattle.ratio_core.specs.Rational.{Rational, ◌+ℚ◌, SumFits, sum_fits}
use Rattle.ratio_core.specs.RationalLaws.{sum_fits_Decides}
use Rattle.named_aff.specs.Entries.{Entries, coefficient_with, has_variable, terms_in}
use Rattle.named_aff.specs.Sums.{sum_of, with_term}

-- the entries with another coefficient of the term's variable
put : Entries → NamedTerm → Option Rational → Option (List NamedTerm)
put entries term o =
    option_map (λ q. terms_in (insert_entry bytes_eq entries term.variable q)) o

put_first : (e : List ℕ × Rational) (entries : Entries) (o : Option Rational)
    → option_and_then (λ q. Some (record { variable = e.0; coefficient = q } ∷ terms_in entries)) o
    ≡ option_map (λ q. terms_in ((e.0, q) ∷ entries)) o
put_first e entries None = refl
put_first e entries (Some q) = refl

put_later : (e : List ℕ × Rational) (entries : Entries) (term : NamedTerm) (o : Option Rational)
    → option_and_then (λ ts. Some (record { variable = e.0; coefficient = e.1 } ∷ ts))
    (put entries term o)
    ≡ option_map (λ q. terms_in (e ∷ insert_entry bytes_eq entries term.variable q)) o
unfolding put
put_later e entries term None = refl
put_later e entries term (Some q) = refl

pub with_term_entries : (entries : Entries) (term : NamedTerm)
    → with_term (terms_in entries) term
    ≡ option_map (λ q. terms_in (insert_entry bytes_eq entries term.variable q))
    (coefficient_with (lookup (bytes_eq term.variable) entries) term.coefficient)
unfolding put
with_term_entries [] term = refl
with_term_entries (e ∷ entries) term =
    at (bytes_eq term.variable e.0) refl (with_term_entries entries term)
  where
    at : (b : Bool) → bytes_eq term.variable e.0 ≡ b
        → with_term (terms_in entries) term
        ≡ option_map (λ q. terms_in (insert_entry bytes_eq entries term.variable q))
        (coefficient_with (lookup (bytes_eq term.variable) entries) term.coefficient)
        → with_term (terms_in (e ∷ entries)) term
        ≡ option_map (λ q. terms_in (insert_entry bytes_eq (e ∷ entries) term.variable q))
        (coefficient_with (lookup (bytes_eq term.variable) (e ∷ entries)) term.coefficient)
    at true same rest = rw same (put_first e entries (sum_of e.1 term.coefficient))
    at false other rest =
        rw other
        (ap (option_and_then (λ ts. Some (record { variable = e.0; coefficient = e.1 } ∷ ts))) rest
        ∙ put_later e entries term
        (coefficient_with (lookup (bytes_eq term.variable) entries) term.coefficient))

-- a term of a variable that has none yet
pub with_term_last : (ts : List NamedTerm) (term : NamedTerm) → has_variable ts term.variable
    ≡ false → with_term ts term ≡ Some (ts ++ term ∷ [])
with_term_last [] term absent = refl
with_term_last (t ∷ ts) term absent =
    at (bytes_eq term.variable t.variable) refl (with_term_last ts term)
  where
    at : (b : Bool) → bytes_eq term.variable t.variable ≡ b
        → (has_variable ts term.variable ≡ false → with_term ts term ≡ Some (ts ++ term ∷ []))
        → with_term (t ∷ ts) term ≡ Some (t ∷ ts ++ term ∷ [])
    at true same rest = let bad : true ≡ false = rw same at absent in cc
    at false other rest =
        rw other (ap (option_and_then (λ others. Some (t ∷ others))) (rest (rw other at absent)))

pub sum_of_is : {E : Type 0} (p q : Rational) (r : Result Rational E)
    → OkIff r (SumFits p q) (p +ℚ q) → result_ok r ≡ sum_of p q
unfolding sum_of
sum_of_is p q (Ok x) h =
    ap Some h.1 ∙ sym (ap (λ b. cond b (Some (p +ℚ q)) None) ((sum_fits_Decides p q).1 h.0))
sum_of_is p q (Err e) h = at (sum_fits p q) refl
  where
    at : (b : Bool) → sum_fits p q ≡ b → None ≡ cond (sum_fits p q) (Some (p +ℚ q)) None
    at true e = absurd (h ((sum_fits_Decides p q).0 e))
    at false e = sym (ap (λ b. cond b (Some (p +ℚ q)) None) e)
