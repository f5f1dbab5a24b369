-- Equality forms are well shaped, whatever the variables, the equations and the cost are.
use Rattle.std.specs.Prelude.{◌≡◌, ℕ, ◌+◌, Bool, true, false, List, length, map, slice_index_or, refl}
use Rattle.std.specs.declared.cmp.Ordering.{Ordering}
use Rattle.std.proofs.Common.{◌∙◌, ap₂, is_lt}
use Rattle.std.proofs.lemmas.List.{length-append, length-map}
use Rattle.std.proofs.lemmas.List.Elements.{All-map}
use Rattle.ratio_core.specs.Rational.{Rational, rational_cmp, zero_ℚ, ◌≤ℚ◌}
use Rattle.rational_laws.specs.Order.{nonneg_neg, ≤ℚ_from_‹ℚ}
use Rattle.rational_laws.specs.Tests.{ge_from_failed, lt_from_test}
use Rattle.aff_core.specs.Function.{FunctionOver, coefficient}
use Rattle.simplex_core.specs.StdForm.{IsWellShaped}
use Rattle.solver_store.specs.declared.leaf.LeafVar.{LeafVar}
use Rattle.equality_form.specs.Columns.{parts_among, slacks_from}
use Rattle.equality_form.specs.EqualityForm.{costs_at, form_from, numbers_at}
use Rattle.equality_form.specs.Equations.{EquationOver, flipped, is_flipped, right_of}
use Rattle.equality_form.specs.RowLaws.{length-cells_from}

flipped_nonneg : (q : Rational) → zero_ℚ ≤ℚ flipped (is_lt (rational_cmp q zero_ℚ)) q
flipped_nonneg q = by_test (is_lt (rational_cmp q zero_ℚ)) refl
  where
    by_test : (b : Bool) → is_lt (rational_cmp q zero_ℚ) ≡ b → zero_ℚ ≤ℚ flipped b q
    by_test true e = nonneg_neg q (≤ℚ_from_‹ℚ q zero_ℚ (lt_from_test q zero_ℚ e))
    by_test false e = ge_from_failed q zero_ℚ e

module _ {K : Type 0} {R : K → K → Ordering} where
  pub length-costs_at : (parts : List (K × Bool)) (slacks : List (ℕ × Bool)) (cost : FunctionOver R)
      → length (costs_at parts slacks cost) ≡ length parts + length slacks
  length-costs_at parts slacks cost =
      length-append (numbers_at parts (coefficient cost)) (map (λ slack. zero_ℚ) slacks)
      ∙ ap₂ ◌+◌ (length-map parts (λ part. flipped part.1 (coefficient cost part.0)))
      (length-map slacks (λ slack. zero_ℚ))

  pub well_shaped : (vars : List (K × LeafVar)) (es : List (EquationOver R)) (cost : FunctionOver R)
      → IsWellShaped (form_from vars es cost)
  well_shaped vars es cost = record {
    matrix = length-cells_from (parts_among vars) (slacks_from 0 es) 0 es;
    right = length-map es (λ e. flipped (is_flipped e) (right_of e));
    costs = length-costs_at (parts_among vars) (slacks_from 0 es) cost;
    flips = length-map es is_flipped;
    nonneg = All-map (λ b. zero_ℚ ≤ℚ b) (λ e. flipped (is_flipped e) (right_of e)) es
        (λ k d h. flipped_nonneg (right_of (slice_index_or es k d)));
  }
