-- A pivot worked out beside what stands.
use Rattle.std.specs.Prelude.{ℕ, IsTrue, List}
use Rattle.ratio_core.specs.Rational.{Rational}
use Rattle.tableau_core.specs.declared.cost_rows.CostRows.{CostRows}
use Rattle.tableau_core.specs.declared.kept.Row.{Row}
use Rattle.tableau_core.specs.Row.{IsDivided, IsPrepared, cell}
use Rattle.tableau_core.specs.Rows.{ArePrepared, now_at}

-- the pivot's new row stands in the room for it, and beside each other row that changes its next
pub record IsReady (rows : List Row) (r q : ℕ) (costs : CostRows) (step : List Rational) : Type 0
  where
    pub divided : IsDivided (cell (now_at rows r) q) (now_at rows r) step
    pub others : ArePrepared r q step rows
    pub first_ready : IsTrue costs.in_first →
        IsPrepared q step costs.first.now.items costs.first.next.items
    pub second_ready : IsPrepared q step costs.second.now.items costs.second.next.items
