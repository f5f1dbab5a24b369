use Rattle.std.proofs.Common.{subst}
use Rattle.std.specs.Prelude.{IfOk}
use Rattle.certificates.specs.Good.{Good}
use Rattle.cache_layer.proofs.Optimized.{optimized_there}
use Rattle.cache_layer.specs.Cached.{Cached, model_in, state_of}
use Rattle.cache_layer.specs.Outcome.{IsOptimized}
use Rattle.cache_layer.proofs.cache.Cache.optimize.Goals as goal

pub returns-clause-outcome : goal.returns-clause-outcome
returns-clause-outcome g c =
    subst (λ (h : Cached). IsOptimized (state_of h) c.args.pivots c.optimize.result)
    c.self.view_is
    (optimized_there c.self.inside.user c.self.inside.lazy c.self.inside.attached c.args.pivots
    c.optimize.result c.if-not-self.false c.optimize.ensures.outcome)

pub returns-clause-good : goal.returns-clause-good
returns-clause-good g c =
    subst (λ (h : Cached). IfOk c.optimize.result (Good (model_in h))) c.self.view_is
    c.optimize.ensures.good
