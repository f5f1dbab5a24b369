use Rattle.std.proofs.Common.{refl, arith, slice_index_or, []}
use Rattle.std.proofs.lemmas.Grind.{common_steps}
use Rattle.std.proofs.lemmas.Option.{gets}
use Rattle.bridge_graph.proofs.settling.candidate.Goals as goal

pub returns-clause-step : goal.returns-clause-step
returns-clause-step c = record {
  row = slice_index_or c.args.edges.now c.args.edge (record {
    source = 0;
    children = [];
    count = 0;
  });
  cost = slice_index_or c.args.costs.now c.args.edge 0;
  usable = record {
    is_on = grind (arith, common_steps, gets);
    row_is = grind (arith, common_steps, gets);
    cost_is = grind (arith, common_steps, gets);
  };
  source = refl;
  is_open = grind (arith, common_steps);
  total = grind (arith, common_steps);
}
