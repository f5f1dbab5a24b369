use Rattle.cache_layer.specs.Cached.{model_in, state_of}
use Rattle.model_conflict.proofs.Optimized.{bounded, tells_fault, tells_given}
use Rattle.model_conflict.proofs.optimizing.optimize.Goals as goal

pub optimum_of-requires : goal.optimum_of-requires
optimum_of-requires g c =
    bounded (model_in c.args.cache.now) c.requires.bare c.in-Ok.certificate c.in-Ok.ensures.good

pub returns-in-Ok : goal.returns-in-Ok
returns-in-Ok g c =
    tells_given (state_of c.args.cache.now) c.args.pivots c.in-Ok.certificate c.optimum_of.result
    c.in-Ok.ensures.outcome c.in-Ok.ensures.good c.optimum_of.ensures

pub returns-in-Err : goal.returns-in-Err
returns-in-Err g c =
    tells_fault (state_of c.args.cache.now) c.args.pivots c.requires.attached c.in-Err.fault
    c.in-Err.ensures.outcome
