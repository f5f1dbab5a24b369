-- The coefficients that are read off a function.
use Rattle.std.specs.Prelude.{◌≡◌, ℕ, length, Ok, Err, slice_index_or, unwrap_or}
use Rattle.std.specs.Cmp.{nat_cmp_total}
use Rattle.std.specs.FinMap.{entries_sorted}
use Rattle.std.specs.List.Sorted.{IsBinarySearchResult, IsSearchInRange}
use Rattle.std.specs.Ordering.{nat_cmp}
use Rattle.std.proofs.Common.{sym, ◌∙◌, ap}
use Rattle.ratio_core.specs.Rational.{Rational, one_ℚ, zero_ℚ}
use Rattle.aff_core.specs.Function.{coefficient, terms_of, variable}
use Rattle.aff_core.specs.FunctionLaws.{coefficient-variable_other, coefficient-variable_same, coefficient_in-terms_of}
use Rattle.map_laws.specs.EntryLaws.{searched}
use Rattle.simplex_form.specs.BoundedSums.{delta}
use Rattle.simplex_laws.specs.BoundedSumLaws.{delta_other, delta_same}
use Rattle.solver_store.specs.SolverFunction.{SolverFunction}
use Rattle.std_form.specs.NameLaws.{index_order}

pub unit_same : (var i : ℕ) → var ≡ i → one_ℚ ≡ coefficient (variable {R = nat_cmp} var) i
unit_same var i e =
    sym (coefficient-variable_same index_order var)
    ∙ ap (coefficient (variable {R = nat_cmp} var)) e

pub unit_other : (var i : ℕ) → ¬ (var ≡ i) → zero_ℚ ≡ coefficient (variable {R = nat_cmp} var) i
unit_other var i n = sym (coefficient-variable_other index_order var i (λ e. n (sym e)))

pub delta_one : (k i : ℕ) → k ≡ i → one_ℚ ≡ delta k i
delta_one k i e = sym (delta_same k) ∙ ap (delta k) e

pub delta_zero : (k i : ℕ) → ¬ (k ≡ i) → zero_ℚ ≡ delta k i
delta_zero k i n = sym (delta_other k i n)

-- what a search among the terms finds
pub coefficient_found : (f : SolverFunction) (i n : ℕ) (d : ℕ × Rational)
    → IsSearchInRange (Ok n) (length (terms_of f)) → IsBinarySearchResult (λ t. nat_cmp t.0 i)
    (terms_of f) (Ok n) → (slice_index_or (terms_of f) n d).1 ≡ coefficient f i
coefficient_found f i n d range found =
    sym (ap (λ o. unwrap_or o zero_ℚ) (searched nat_cmp_total i (terms_of f) (Ok n)
    (entries_sorted f.terms) range found d)) ∙ coefficient_in-terms_of f i

pub coefficient_absent : (f : SolverFunction) (i n : ℕ)
    → IsSearchInRange (Err n) (length (terms_of f)) → IsBinarySearchResult (λ t. nat_cmp t.0 i)
    (terms_of f) (Err n) → zero_ℚ ≡ coefficient f i
coefficient_absent f i n range parted =
    sym (ap (λ o. unwrap_or o zero_ℚ) (searched nat_cmp_total i (terms_of f) (Err n)
    (entries_sorted f.terms) range parted)) ∙ coefficient_in-terms_of f i
