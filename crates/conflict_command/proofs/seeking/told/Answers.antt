use Rattle.cache_layer.specs.Cached.{state_of}
use Rattle.conflict_command.proofs.Told.{says_what, says_why}
use Rattle.conflict_command.proofs.seeking.told.Goals as goal

pub returns-in-Ok : goal.returns-in-Ok
returns-in-Ok g c =
    says_what (state_of c.args.cache.now) c.tell_found-answer.result c.find_in.new.cache.user
    c.model.result.now c.in-Ok.found c.in-Ok.ensures.finds c.in-Ok.ensures.shows
    c.in-Ok.ensures.groups c.in-Ok.ensures.rows c.model.ensures.value c.tell_found-answer.ensures

pub returns-in-Err : goal.returns-in-Err
returns-in-Err g c =
    says_why (state_of c.args.cache.now) c.tell_optimize.result c.in-Err.fault
    c.in-Err.ensures.finds c.tell_optimize.ensures.told
