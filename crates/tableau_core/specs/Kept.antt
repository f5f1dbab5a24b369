-- How a board is kept.
use Rattle.std.specs.Prelude.{◌≡◌, ℕ, ◌+◌, length, map, take}
use Rattle.tableau_core.specs.declared.dense_board.DenseBoard.TheInside.{Inside}
use Rattle.tableau_core.specs.Row.{AllFit, cell}
use Rattle.tableau_core.specs.Rows.{AreWide}
use Rattle.tableau_core.specs.BoardContents.{BoardContents}

-- the real columns and an artificial one for each row
abbrev pub width_of : Inside → ℕ
width_of a = a.reals + length a.rows.items

-- each row is kept with its right side behind its entries
abbrev pub contents_of : Inside → BoardContents
contents_of a = record {
  reals = a.reals;
  rows = map (λ row. take (width_of a) row.now.items) a.rows.items;
  rights = map (λ row. cell row.now.items (width_of a)) a.rows.items;
  in_first = a.costs.in_first;
  first = a.costs.first.now.items;
  second = a.costs.second.now.items;
  basis = a.basis.items;
}

-- each row has its length, and so has the spare one
pub record IsDenseBoardKept (a : Inside) : Type 0 where
  pub wide : AreWide (width_of a + 1) a.rows.items
  pub spare : length a.step.items ≡ width_of a + 1
  pub spare_fits : AllFit a.step.items
  pub places : length a.places.items ≡ width_of a + 1
  pub first : length a.costs.first.now.items ≡ width_of a
  pub second : length a.costs.second.now.items ≡ width_of a
  pub basis : length a.basis.items ≡ length a.rows.items
