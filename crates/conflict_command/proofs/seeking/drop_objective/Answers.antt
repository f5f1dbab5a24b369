use Rattle.cache_layer.specs.Cached.{state_of}
use Rattle.conflict_command.proofs.Attached.{made_bare, only_memory}
use Rattle.conflict_command.proofs.seeking.drop_objective.Goals as goal

pub unreachable-requires : goal.unreachable-requires
unreachable-requires g c =
    c.in_default.not-Memory
    (only_memory (state_of c.args.cache.now) (state_of c.edit.new.self) c.requires c.in-Err.fault
    c.in-Err.ensures.answer)

pub returns-in-Ok : goal.returns-in-Ok
returns-in-Ok g c =
    made_bare (state_of c.args.cache.now) (state_of c.edit.new.self) c.requires c.in-Ok._changed
    c.in-Ok.ensures.answer
