-- Whole numbers that a row starts with.
use Rattle.std.specs.Prelude.{◌≡◌, ℕ, ◌<◌, ◌≤◌, List}
use Rattle.ratio_core.specs.Rational.{Rational, SumFits, neg_ℚ, ◌+ℚ◌}
use Rattle.sparse_ratios.specs.Terms.{AreTerms, number_at}
use Rattle.whole_rows.specs.declared.narrow_row.NarrowRow.{NarrowRow}
use Rattle.whole_rows.specs.Rows.{number_of, width_of}

-- a column has its number now, and each other the same; the right side stands behind the columns
pub record IsNumberPut (column : ℕ) (value : Rational) (old new : NarrowRow) : Type 0 where
  pub width : width_of new ≡ width_of old
  pub here : number_of new column ≡ value
  pub elsewhere : (j : ℕ) → j ≤ width_of old → ¬ (j ≡ column) → number_of new j ≡ number_of old j

-- what a column's number lacks to be 0
abbrev pub owed : NarrowRow → ℕ → Rational
owed row j = neg_ℚ (number_of row j)

-- a value that fits is added to what a column owes, and each other has its number still
pub record IsNumberLowered (column : ℕ) (value : Rational) (old new : NarrowRow) : Type 0 where
  pub width : width_of new ≡ width_of old
  pub here : owed new column ≡ owed old column +ℚ value
  pub fits : SumFits (owed old column) value
  pub elsewhere : (j : ℕ) → j ≤ width_of old → ¬ (j ≡ column) → number_of new j ≡ number_of old j

-- the terms of the places from `low` on that are below `high`
pub record AreTermsOf (low high : ℕ) (all some : List (ℕ × Rational)) : Type 0 where
  pub terms : AreTerms low high some
  pub numbers : (k : ℕ) → low ≤ k → k < high → number_at some k ≡ number_at all k
