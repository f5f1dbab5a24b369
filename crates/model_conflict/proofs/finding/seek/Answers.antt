use Rattle.std.proofs.Common.{Ok, subst}
use Rattle.cache_layer.specs.Cached.{state_of}
use Rattle.model_conflict.proofs.Optimized.{fault_found, walk_found}
use Rattle.model_conflict.proofs.finding.seek.Goals as goal
use Rattle.model_conflict.specs.Optima.{TellsOptimum}

pub returns-in-Ok-Infeasible-clause-finds : goal.returns-in-Ok-Infeasible-clause-finds
returns-in-Ok-Infeasible-clause-finds g c =
    walk_found (state_of c.args.cache.now) c.args.pivots c.in-Ok-Infeasible.duals
    (subst (λ o. TellsOptimum (state_of c.args.cache.now) c.args.pivots (Ok o))
    c.in-Ok-Infeasible.field-0-is c.in-Ok-Infeasible.ensures)
    c.walk.result c.walk.ensures.finds

pub returns-in-Err-clause-finds : goal.returns-in-Err-clause-finds
returns-in-Err-clause-finds g c =
    fault_found (state_of c.args.cache.now) c.args.pivots c.in-Err.fault c.in-Err.ensures
