use Rattle.std.proofs.Common.{rules}
use Rattle.whole_rows.proofs.BitSteps.{lowest_is}
use Rattle.whole_rows.proofs.bits.lowest.Goals as goal

pub returns : goal.returns
returns c = lowest_is c.args.word (search rules) c.requires
