use Rattle.cache_layer.specs.Cached.{state_of}
use Rattle.model_conflict.proofs.Shown.{found_shows}
use Rattle.model_conflict.proofs.finding.find_in.Goals as goal

pub returns-clause-shows : goal.returns-clause-shows
returns-clause-shows g c =
    found_shows (state_of c.args.cache.now) c.args.pivots c.seek.result c.seek.ensures.finds
