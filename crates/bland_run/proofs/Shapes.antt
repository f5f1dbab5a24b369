-- A form that was read is well shaped and small.
use Rattle.std.proofs.Common.{◌≡◌, ℕ, suc, ◌+◌, ◌*◌, ◌≤◌, true, not, ◌&&◌, List, [], ◌∷◌, length, map, flat_map, take, arith, sym, ap, ap₂, ◌∙◌, subst, Some, None, length-append}
use Rattle.std.specs.Prelude.{Option, IfOk, IfSome, Result, Ok, Err, ◌==◌, false, slice_index_or}
use Rattle.std.specs.List.{All, list_all}
use Rattle.std.proofs.lemmas.Bool.{and_parts, cond_both, eqb-true, not-true}
use Rattle.std.proofs.lemmas.List.{length-map, length-replicate, length-take-le}
use Rattle.std.proofs.lemmas.List.Elements.{All-map}
use Rattle.std.proofs.lemmas.List.Sums.{AllPass-from_list_all}
use Rattle.ratio_core.specs.Rational.{Rational, zero_ℚ, ◌≤ℚ◌}
use Rattle.rational_laws.specs.Tests.{ge_from_failed}
use Rattle.lists.specs.declared.memory.Memory.{Memory}
use Rattle.simplex_core.specs.declared.form.StdForm.{StdForm}
use Rattle.simplex_form.specs.Turns.{is_below}
use Rattle.bland_run.specs.declared.size.Size.{Size}
use Rattle.bland_run.specs.Forms.{costs_of, form_from, form_with, is_row, is_shaped, right_of}
use Rattle.bland_run.specs.Reading.{IsSmall}

-- ---- rows

module _ (c : ℕ) where
  row_parts : (row : List Rational) → is_row c row ≡ true
      → (length row ≡ c + 1) × (zero_ℚ ≤ℚ right_of c row)
  row_parts row h =
      let parts : ((length row == c + 1) ≡ true) × (not (is_below (right_of c row) zero_ℚ) ≡ true) =
      and_parts (length row == c + 1) (not (is_below (right_of c row) zero_ℚ)) h in (
        eqb-true (length row) (c + 1) parts.0,
        ge_from_failed (right_of c row) zero_ℚ
            (not-true (is_below (right_of c row) zero_ℚ) parts.1),
      )

  -- the matrix has c numbers of each row
  matrix_long : (rows : List (List Rational)) → list_all (is_row c) rows ≡ true
      → length (flat_map (take c) rows) ≡ length rows * c
  matrix_long [] h = none_lem c
    where
      none_lem : (c : ℕ) → 0 ≡ 0 * c
      none_lem c = omega arith
  matrix_long (row ∷ rows) h =
      let parts : (is_row c row ≡ true) × (list_all (is_row c) rows ≡ true) =
      and_parts (is_row c row) (list_all (is_row c) rows) h in
      length-append (take c row) (flat_map (take c) rows)
      ∙ ap₂ ◌+◌ (length-take-le c row (within (length row) c (row_parts row parts.0).0))
      (matrix_long rows parts.1)
      ∙ more_lem (length rows) c
    where
      within : (n c : ℕ) → n ≡ c + 1 → c ≤ n
      within n c e = omega (arith, e)

      more_lem : (n c : ℕ) → c + n * c ≡ suc n * c
      more_lem n c = omega arith

  -- no right side is below 0
  rights_nonneg : (rows : List (List Rational)) → list_all (is_row c) rows ≡ true
      → All (λ b. zero_ℚ ≤ℚ b) (map (right_of c) rows)
  rights_nonneg rows h =
      All-map (λ b. zero_ℚ ≤ℚ b) (right_of c) rows
      (λ k d b. (row_parts (slice_index_or rows k d)
      (AllPass-from_list_all (is_row c) rows h k d b)).1)

-- ---- the form

record HasShape (size : Size) (rows : List (List Rational)) : Type 0 where
  long : length rows ≡ size.m + 1
  each : list_all (is_row size.c) (take size.m rows) ≡ true
  costs : length (costs_of size.m rows) ≡ size.c

shape_of : (size : Size) (rows : List (List Rational)) → is_shaped size rows ≡ true
    → HasShape size rows
shape_of size rows h =
    let first : (((length rows == size.m + 1) && list_all (is_row size.c) (take size.m rows)) ≡ true)
    × ((length (costs_of size.m rows) == size.c) ≡ true) =
    and_parts ((length rows == size.m + 1) && list_all (is_row size.c) (take size.m rows))
    (length (costs_of size.m rows) == size.c) h in
    let second : ((length rows == size.m + 1) ≡ true)
    × (list_all (is_row size.c) (take size.m rows) ≡ true) =
    and_parts (length rows == size.m + 1) (list_all (is_row size.c) (take size.m rows)) first.0 in
    record {
      long = eqb-true (length rows) (size.m + 1) second.0;
      each = second.1;
      costs = eqb-true (length (costs_of size.m rows)) size.c first.1;
    }

shaped_small : (size : Size) (rows : List (List Rational)) → size.m + size.c ≤ 61
    → HasShape size rows → IsSmall (form_with size rows)
shaped_small size rows small h = record {
  shape = record {
    matrix = matrix_long size.c (take size.m rows) h.each ∙ ap (λ n. n * size.c) front;
    right = length-map (take size.m rows) (right_of size.c) ∙ front;
    costs = h.costs;
    flips = length-replicate size.m false;
    nonneg = rights_nonneg size.c (take size.m rows) h.each;
  };
  small = swapped size.m size.c small;
}
  where
    within : (n m : ℕ) → n ≡ m + 1 → m ≤ n
    within n m e = omega (arith, e)

    front : length (take size.m rows) ≡ size.m
    front = length-take-le size.m rows (within (length rows) size.m h.long)

    swapped : (m c : ℕ) → m + c ≤ 61 → c + m ≤ 61
    swapped m c h = omega (arith, h)

small_form : (size : Size) (rows : List (List Rational)) → size.m + size.c ≤ 61
    → IfSome (form_from size rows) IsSmall
small_form size rows small =
    cond_both (is_shaped size rows) (Some (form_with size rows)) None (λ o. IfSome o IsSmall)
    (λ e. shaped_small size rows small (shape_of size rows e)) (λ e. tt)

-- what is read is small
pub small_result : (size : Size) (rows : List (List Rational))
    (res : Result (Option StdForm) Memory) → size.m + size.c ≤ 61
    → IfOk res (λ form. form ≡ form_from size rows) → IfOk res (λ form. IfSome form IsSmall)
small_result size rows (Ok form) small e =
    subst (λ o. IfSome o IsSmall) (sym e) (small_form size rows small)
small_result size rows (Err fault) small e = tt
