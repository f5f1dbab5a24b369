use Rattle.std.proofs.Common.{subst}
use Rattle.bridge_plan.specs.Means.{AreSound}
use Rattle.bridge_set.specs.Bridges.{means_of}
use Rattle.cache_layer.specs.Cached.{state_of}
use Rattle.lazy_bridge.specs.Owned.{Owned}
use Rattle.model_conflict.proofs.Making.{made_of, out_of_memory}
use Rattle.model_conflict.proofs.Tried.{valid_in}
use Rattle.model_conflict.proofs.trials.make.Goals as goal

pub unreachable-requires : goal.unreachable-requires
unreachable-requires g c =
    let sound =
    subst (λ (lazy : Owned). AreSound (means_of lazy.bridges)) c.lazy.ensures
    c.table-sound.ensures.sound in
    c.in_default.not-Memory
    (out_of_memory (state_of c.args.cache.now) c.args.edit (state_of c.edit.new.self)
    c.requires.accepted sound.costly sound.lawful
    (valid_in c.args.cache.now.user c.model.result.now c.model.ensures.value
    c.rows-valid.ensures.valid)
    c.requires.bridged c.in-Err.fault c.in-Err.ensures.answer)

pub returns-in-Ok-clause-ok : goal.returns-in-Ok-clause-ok
returns-in-Ok-clause-ok g c =
    made_of (state_of c.args.cache.now) c.args.edit (state_of c.edit.new.self)
    c.requires.accepted c.in-Ok._changed c.in-Ok.ensures.answer
