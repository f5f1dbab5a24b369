-- How a board is kept.
use Rattle.std.specs.Prelude.{◌≡◌, ℕ, ◌+◌, ◌<◌, ◌^◌, List, length, map}
use Rattle.std.specs.List.{range_with_len}
use Rattle.ratio_core.specs.Rational.{Rational}
use Rattle.tableau_core.specs.BoardContents.{BoardContents}
use Rattle.sparse_board.specs.declared.board.Board.TheInside.{Inside}
use Rattle.sparse_board.specs.Mixed.{number_of, width_of}
use Rattle.sparse_board.specs.Rows.{AreSparseRowsWide}
use Rattle.sparse_board.specs.Marking.{AreNumbersMarked}

-- the first w numbers
abbrev pub listed : ℕ → (ℕ → Rational) → List Rational
listed w numbers = map numbers (range_with_len 0 w)

-- the real columns and an artificial one for each row
abbrev pub columns_of : Inside → ℕ
columns_of a = a.reals + length a.rows.items

-- each row is kept with its right side behind its entries
abbrev pub contents_of : Inside → BoardContents
contents_of a = record {
  reals = a.reals;
  rows = map (λ row. listed (columns_of a) (number_of row.now)) a.rows.items;
  rights = map (λ row. number_of row.now (columns_of a)) a.rows.items;
  in_first = a.costs.in_first;
  first = listed (columns_of a) (number_of a.costs.first.now);
  second = listed (columns_of a) (number_of a.costs.second.now);
  basis = a.basis.items;
}

-- each row has its columns, and so has the spare one, and each number is marked or 0
pub record IsSparseBoardKept (a : Inside) : Type 0 where
  pub few : columns_of a + 1 < 2 ^ 32
  pub wide : AreSparseRowsWide (columns_of a + 1) a.rows.items
  pub spare : a.step.width ≡ columns_of a + 1
  pub first : width_of a.costs.first.now ≡ columns_of a
  pub second : width_of a.costs.second.now ≡ columns_of a
  pub basis : length a.basis.items ≡ length a.rows.items
  pub changes : length a.changes.rows.items ≡ length a.rows.items
  pub mark_columns : a.marks.columns ≡ columns_of a + 1
  pub mark_rows : a.marks.rows ≡ length a.rows.items
  pub marked : AreNumbersMarked (columns_of a + 1) a.marks a.rows.items
