use Rattle.tableau_core.specs.Row.{AllFit, cell}
use Rattle.tableau_core.specs.Start.{IsListOf}
use Rattle.tableau_core.proofs.start.second_prices.Given as goal

abbrev pub invariant-loop-cost : goal.invariant-loop-cost
invariant-loop-cost l =
    record {
      costs : IsListOf l.cost-index (cell l.costs) l.prices.items;
      all_fit : AllFit l.prices.items;
    }
