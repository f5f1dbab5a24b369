use Rattle.std.proofs.Common.{ap, ◌∙◌}
use Rattle.std.specs.Prelude as prelude
use Rattle.cache_layer.specs.Cached.{state_of}
use Rattle.cache_layer.specs.CacheState.{CacheState}
use Rattle.dual_command.proofs.Told.{says_alone}
use Rattle.dual_command.proofs.solving.solved.Goals as goal
use Rattle.model_command.specs.Alone.{standard_by}

pub answered-answer-requires : goal.answered-answer-requires
answered-answer-requires g c =
    ap (λ (s : CacheState). s.model) c.cache_of-cache.ensures ∙ c.requires.dual

pub returns : goal.returns
returns g c =
    says_alone c.args.model.now.model c.answered-answer.result (state_of c.cache_of-cache.result)
    (standard_by (prelude.map g.B.Bridge.state c.args.bridges.items)) c.args.dual.model
    c.cache_of-cache.ensures c.requires.dual c.answered-answer.ensures
