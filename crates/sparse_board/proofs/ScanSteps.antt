-- The least column that passes a test which no zero passes.
use Rattle.std.specs.Prelude.{◌≡◌, ℕ, ◌+◌, ◌<◌, ◌≤◌, Bool, true, false, Some, None, length, slice_index, refl}
use Rattle.std.proofs.Common.{sym, ◌∙◌, ap, arith}
use Rattle.ratio_core.specs.Rational.{Rational, zero_ℚ}
use Rattle.rational_laws.specs.Order.{not_‹ℚ_from_≤ℚ, ≤ℚ_from_≡}
use Rattle.rational_laws.specs.Tests.{lt_from_test}
use Rattle.simplex_form.specs.Search.{least_below}
use Rattle.simplex_form.specs.Turns.{is_below}
use Rattle.tableau_core.specs.LeastLaws.{least_found, least_more, least_past}
use Rattle.tableau_core.specs.Row.{cell}
use Rattle.sparse_board.specs.declared.sparse_row.SparseRow.{SparseRow}
use Rattle.sparse_board.specs.Numbers.{number_of, row_columns, row_values}
use Rattle.sparse_board.proofs.NumberLemmas.{number_at_place}
use Rattle.sparse_board.proofs.LoweringSteps.{between_zero, past, past_least, past_more}

pub zero_not_below : (v : Rational) → v ≡ zero_ℚ → is_below v zero_ℚ ≡ false
zero_not_below v e = by_test (is_below v zero_ℚ) refl
  where
    by_test : (b : Bool) → is_below v zero_ℚ ≡ b → b ≡ false
    by_test true t =
        absurd (not_‹ℚ_from_≤ℚ zero_ℚ v (≤ℚ_from_≡ zero_ℚ v (sym e)) (lt_from_test v zero_ℚ t))
    by_test false t = refl

module _ (row : SparseRow) (test : ℕ → Bool) (zeros : (j : ℕ) → number_of row j ≡ zero_ℚ
    → test j ≡ false) (k : ℕ) (few : k ≤ length (row_columns row))
    (none : least_below (past (row_columns row) k) test ≡ None) where
  -- none up to c, before which no number is left
  pub none_to : (c : ℕ) → past (row_columns row) k ≤ c
      → (k < length (row_columns row) → c ≤ slice_index (row_columns row) k)
      → least_below c test ≡ None
  none_to c low high =
      least_past c (past (row_columns row) k) test none low
      (λ j p q. zeros j (between_zero (row_columns row) (row_values row) row.sparse k j few p
      (λ b. less_lem j c (slice_index (row_columns row) k) q (high b))))
    where
      less_lem : (j c x : ℕ) → j < c → c ≤ x → j < x
      less_lem j c x p q = omega (arith, p, q)

  module _ (b : k < length (row_columns row)) where
    abbrev at : ℕ
    at = slice_index (row_columns row) k

    before_at : least_below at test ≡ None
    before_at =
        none_to at (past_least (row_columns row) (row_values row) row.sparse k b) (λ _. omega arith)

    pub found_at : (count : ℕ) → at < count → test at ≡ true → least_below count test ≡ Some at
    found_at count c e = least_found count at test c before_at e

    pub none_more : test at ≡ false → least_below (past (row_columns row) (k + 1)) test ≡ None
    none_more e =
        ap (λ n. least_below n test) (past_more (row_columns row) k)
        ∙ least_more at test before_at e

pub value_at : (row : SparseRow) (k : ℕ) (item : Rational) → k < length (row_columns row)
    → item ≡ cell (row_values row) k → item ≡ number_of row (slice_index (row_columns row) k)
value_at row k item b is =
    is ∙ sym (number_at_place (row_columns row) (row_values row) row.sparse k
    (slice_index (row_columns row) k) b refl)
