use Rattle.std.proofs.Common.{ap, ◌∙◌}
use Rattle.cache_layer.specs.Cached.{Cached}
use Rattle.cache_layer.specs.FewCallsLaws.{few_cleared}
use Rattle.cache_layer.proofs.cache.Cache.detach.Goals as goal

pub returns-clause-few : goal.returns-clause-few
returns-clause-few g c =
    few_cleared c.args.self.now.lazy c.clear.new.self c.clear.ensures.nothing
    (c.clear.ensures.calls ∙ ap (λ (h : Cached). h.lazy.solver.leaves.calls) c.self.view_is)
