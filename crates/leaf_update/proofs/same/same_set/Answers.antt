use Rattle.leaf_update.proofs.SameParts.{sets_same}
use Rattle.leaf_update.proofs.same.same_set.Goals as goal

pub returns : goal.returns
returns c = sets_same c.args.one.now c.args.other.now c.eq.result c.eq.ensures
