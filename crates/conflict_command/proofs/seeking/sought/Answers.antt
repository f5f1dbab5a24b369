use Rattle.cache_layer.specs.Cached.{model_in, state_of}
use Rattle.conflict_command.proofs.Attached.{can_walk, says_sought, says_unattached}
use Rattle.conflict_command.proofs.seeking.sought.Goals as goal

pub told-requires : goal.told-requires
told-requires g c =
    can_walk (state_of c.args.cache.now).setting (model_in c.args.cache.now)
    (state_of c.drop_objective.new.cache) (state_of c.attach.new.self)
    c.in_ok-drop_objective.ensures c.in-Ok._leaves c.requires.room c.in-Ok.ensures.answer

pub returns-in-Ok : goal.returns-in-Ok
returns-in-Ok g c =
    says_sought (state_of c.args.cache.now).setting (model_in c.args.cache.now)
    (state_of c.drop_objective.new.cache) (state_of c.attach.new.self)
    c.in_ok-drop_objective.ensures c.told.result c.in-Ok._leaves c.in-Ok.ensures.answer
    c.told.ensures

pub returns-in-Err : goal.returns-in-Err
returns-in-Err g c =
    says_unattached (state_of c.args.cache.now).setting (model_in c.args.cache.now)
    (state_of c.drop_objective.new.cache) (state_of c.attach.new.self)
    c.in_ok-drop_objective.ensures c.tell_attach.result c.in-Err.fault c.in-Err.ensures.answer
    c.tell_attach.ensures.told
