-- Numbers that are held below a column.
use Rattle.std.specs.Prelude.{◌≡◌, ℕ, ◌+◌, ◌<◌, ◌≤◌, List, [], length, ◌⊎◌}
use Rattle.std.proofs.Common.{sym, ◌∙◌, arith, subst, inl, inr}
use Rattle.std.proofs.lemmas.Bool.{cases_lt}
use Rattle.ratio_core.specs.Rational.{Rational, zero_ℚ}
use Rattle.simplex_laws.specs.BoundedSumLaws.{same_or_other}
use Rattle.sparse_board.specs.declared.sparse_row.SparseRow.{SparseRow}
use Rattle.sparse_board.specs.Sparse.{AreColumnsBelow, columns_in}
use Rattle.sparse_board.specs.Numbers.{AppendsNumber, Copies, CopiesTo, HoldsBelow, number_of, row_columns, row_values}
use Rattle.sparse_board.proofs.NumberLemmas.{number_past}

pub held_none : (h : ℕ → Rational) (row : SparseRow) → row.entries.items ≡ [] → HoldsBelow 0 h row
held_none h row e = record {
  below = λ k b. absurd (omega (arith, subst (λ entries. k < length (columns_in entries)) e b));
  numbers = λ j b. absurd (omega (arith, b));
}

-- zeros up to a column
pub held_past : (b c : ℕ) (h : ℕ → Rational) (row : SparseRow) → HoldsBelow b h row → b ≤ c
    → ((j : ℕ) → b ≤ j → j < c → h j ≡ zero_ℚ) → HoldsBelow c h row
held_past b c h row held few zeros = record {
  below = λ k d. omega (arith, held.below k d, few);
  numbers = λ j d. by_side j d (cases_lt j b);
}
  where
    by_side : (j : ℕ) → j < c → (j < b) ⊎ (b ≤ j) → number_of row j ≡ h j
    by_side j d (inl e) = held.numbers j e
    by_side j d (inr e) =
        number_past (row_columns row) (row_values row) b j held.below e ∙ sym (zeros j e d)

-- and one number more
pub held_more : (b : ℕ) (h : ℕ → Rational) (value : Rational) (old new : SparseRow)
    → HoldsBelow b h old → AppendsNumber b value old new → value ≡ h b → HoldsBelow (b + 1) h new
held_more b h value old new held adds is = record {
  below = adds.below;
  numbers = λ j d. same_or_other (number_of new j ≡ h j) j b
      (λ e. subst (λ k. number_of new k ≡ h k) (sym e) (adds.here ∙ is))
      (λ m. adds.elsewhere j m ∙ held.numbers j (omega (arith, d, m)));
}

pub held_next : (b c : ℕ) (h : ℕ → Rational) (value : Rational) (old new : SparseRow)
    → HoldsBelow b h old → b ≤ c → ((j : ℕ) → b ≤ j → j < c → h j ≡ zero_ℚ)
    → AppendsNumber c value old new
    → value ≡ h c → HoldsBelow (c + 1) h new
held_next b c h value old new held few zeros adds is =
    held_more c h value old new (held_past b c h old held few zeros) adds is

pub held_same : (b : ℕ) (f h : ℕ → Rational) (row : SparseRow) → HoldsBelow b f row
    → ((j : ℕ) → j < b → f j ≡ h j) → HoldsBelow b h row
held_same b f h row held same =
    record { below = held.below; numbers = λ j d. held.numbers j d ∙ same j d }

-- what is below a column is below the next
pub below_less : (b c : ℕ) (columns : List ℕ) → AreColumnsBelow b columns → b ≤ c
    → AreColumnsBelow c columns
below_less b c columns h few k d = omega (arith, h k d, few)

-- numbers copied up to a column, and then that column's
pub copied_then : (row : SparseRow) (i c : ℕ) (old mid new : SparseRow) (value v : Rational)
    → Copies row i c old mid → AppendsNumber c value mid new → value ≡ v
    → CopiesTo row i c v old new
copied_then row i c old mid new value v copied adds is = λ b h few split held same here.
    held_more c h value mid new (copied b h few split held same) adds (is ∙ sym here)
