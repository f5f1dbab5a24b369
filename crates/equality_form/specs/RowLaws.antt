-- The rows of a leaf model's matrix, cell by cell and weighed.
use Rattle.std.specs.Prelude.{◌≡◌, ℕ, zero, suc, ◌+◌, ◌*◌, ◌<◌, Bool, List, [], ◌∷◌, ◌++◌, length, slice_index_or}
use Rattle.std.specs.declared.cmp.Ordering.{Ordering}
use Rattle.std.proofs.Common.{sym, ◌∙◌, ap, ap₂, arith, subst}
use Rattle.std.proofs.lemmas.List.{get_or-map, length-append, length-map}
use Rattle.ratio_core.specs.Rational.{Rational, zero_ℚ, ◌*ℚ◌}
use Rattle.rational_laws.specs.Dot.{dot}
use Rattle.aff_core.specs.Address.{Address}
use Rattle.aff_core.specs.Function.{coefficient}
use Rattle.simplex_form.specs.BoundedSums.{sum_to}
use Rattle.simplex_laws.specs.BoundedSumLaws.{sum_to_same}
use Rattle.tableau_core.specs.Row.{cell}
use Rattle.equality_form.specs.CellLaws.{cell_of_first, cell_of_rest, dot_flipped, sum_to_dot}
use Rattle.equality_form.specs.EqualityForm.{cells_from, numbers_at, right_sides, row_cells, unit_at}
use Rattle.equality_form.specs.Equations.{Equation, EquationOver, flipped, is_flipped, right_of}

no_rows : (c : ℕ) → 0 ≡ 0 * c
no_rows c = omega arith

row_more : (n c : ℕ) → c + n * c ≡ suc n * c
row_more n c = omega arith

in_first : (c j : ℕ) → 0 * c + j ≡ j
in_first c j = omega arith

past_first : (c i j : ℕ) → suc i * c + j ≡ c + (i * c + j)
past_first c i j = omega arith

pub from_none : (i : ℕ) → 0 + i ≡ i
from_none i = omega arith

module _ {K : Type 0} {R : K → K → Ordering} (parts : List (K × Bool))
    (slacks : List (ℕ × Bool)) where
  pub length-row_cells : (i : ℕ) (e : EquationOver R)
      → length (row_cells parts slacks i e) ≡ length parts + length slacks
  length-row_cells i e =
      length-map (numbers_at parts (coefficient e.function) ++ unit_at slacks i)
      (flipped (is_flipped e))
      ∙ length-append (numbers_at parts (coefficient e.function)) (unit_at slacks i)
      ∙ ap₂ ◌+◌ (length-map parts (λ part. flipped part.1 (coefficient e.function part.0)))
      (length-map slacks (λ slack. flipped slack.1 _))

  pub length-cells_from : (k : ℕ) (es : List (EquationOver R))
      → length (cells_from parts slacks k es) ≡ length es * (length parts + length slacks)
  length-cells_from k [] = no_rows (length parts + length slacks)
  length-cells_from k (e ∷ es) =
      length-append (row_cells parts slacks k e) (cells_from parts slacks (suc k) es)
      ∙ ap₂ ◌+◌ (length-row_cells k e) (length-cells_from (suc k) es)
      ∙ row_more (length es) (length parts + length slacks)

module _ (parts : List (Address × Bool)) (slacks : List (ℕ × Bool)) where
  -- the j-th cell of the i-th row
  pub cell_at : (es : List Equation) (k i j : ℕ) (d : Equation) → i < length es
      → j < length parts + length slacks
      → cell (cells_from parts slacks k es) (i * (length parts + length slacks) + j)
      ≡ cell (row_cells parts slacks (k + i) (slice_index_or es i d)) j
  cell_at [] k i j d h b = absurd (omega (arith, h))
  cell_at (e ∷ es) k zero j d h b =
      ap (cell (cells_from parts slacks k (e ∷ es))) (in_first (length parts + length slacks) j)
      ∙ cell_of_first (row_cells parts slacks k e) (cells_from parts slacks (suc k) es) j
      (subst (λ n. j < n) (sym (length-row_cells parts slacks k e)) b)
      ∙ ap (λ n. cell (row_cells parts slacks n e) j) (omega arith)
  cell_at (e ∷ es) k (suc i) j d h b =
      ap (cell (cells_from parts slacks k (e ∷ es))) (past_first (length parts + length slacks) i j)
      ∙ cell_of_rest (row_cells parts slacks k e) (cells_from parts slacks (suc k) es)
      (length parts + length slacks) (i * (length parts + length slacks) + j)
      (length-row_cells parts slacks k e)
      ∙ cell_at es (suc k) i j d (omega (arith, h)) b
      ∙ ap (λ n. cell (row_cells parts slacks n (slice_index_or es i d)) j) (omega arith)

  -- the left side of the i-th row
  pub left_of_row : (es : List Equation) (x : List Rational) (i : ℕ) (d : Equation) → i < length es
      → length x ≡ length parts + length slacks
      → sum_to (length parts
      + length slacks) (λ j. cell (cells_from parts slacks 0 es)
      (i * (length parts + length slacks) + j) *ℚ cell x j)
      ≡ flipped (is_flipped (slice_index_or es i d))
      (dot (numbers_at parts (coefficient (slice_index_or es i d).function) ++ unit_at slacks i) x)
  left_of_row es x i d h n =
      sum_to_same (length parts
      + length slacks) _ (λ j. cell (row_cells parts slacks i (slice_index_or es i d)) j
      *ℚ cell x j) (λ j b. ap (λ q. q *ℚ cell x j) (cell_at es 0 i j d h b
      ∙ ap (λ n. cell (row_cells parts slacks n (slice_index_or es i d)) j) (from_none i)))
      ∙ subst (λ c. sum_to c (λ j. cell (row_cells parts slacks i (slice_index_or es i d)) j
      *ℚ cell x j) ≡ dot (row_cells parts slacks i (slice_index_or es i d)) x) n
      (sum_to_dot (row_cells parts slacks i (slice_index_or es i d)) x
      (length-row_cells parts slacks i (slice_index_or es i d) ∙ sym n))
      ∙ dot_flipped (is_flipped (slice_index_or es i d))
      (numbers_at parts (coefficient (slice_index_or es i d).function) ++ unit_at slacks i) x

pub right_at : (es : List Equation) (i : ℕ) (d : Equation) → i < length es
    → cell (right_sides es) i
    ≡ flipped (is_flipped (slice_index_or es i d)) (right_of (slice_index_or es i d))
right_at es i d h = get_or-map (λ e. flipped (is_flipped e) (right_of e)) es i d zero_ℚ h
