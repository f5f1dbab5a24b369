use Rattle.std.proofs.Common.{◌+◌, ◌≤◌, ap, length, subst, sym}
use Rattle.std.specs.Prelude as prelude
use Rattle.cache_layer.specs.Cached.{state_of}
use Rattle.cache_layer.specs.CacheState.{CacheState}
use Rattle.conflict_command.proofs.Told.{says_on}
use Rattle.conflict_command.proofs.answering.answer_on.Goals as goal
use Rattle.model_command.specs.Alone.{standard_by}
use Rattle.user_model.specs.Limits.{LAST_NUMBER}

pub sought-answer-requires : goal.sought-answer-requires
sought-answer-requires g c = record {
  detached = ap (λ (s : CacheState). s.attached) c.cache_of-cache.ensures;
  room = subst (λ (s : CacheState). s.model.next.row + length s.model.rows ≤ LAST_NUMBER + 1)
      (sym c.cache_of-cache.ensures) c.requires.room;
}

pub returns : goal.returns
returns g c =
    says_on (standard_by (prelude.map g.B.Bridge.state c.args.bridges.items)) c.args.model.model
    (state_of c.cache_of-cache.result) c.sought-answer.result c.unwrap_or.result c.cache_of-cache.ensures
    c.sought-answer.ensures c.unwrap_or.ensures
