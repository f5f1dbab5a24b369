use Rattle.leaf_update.proofs.OtherSteps.{same_among}
use Rattle.leaf_update.proofs.sorted.SortedAddresses.of.Goals as goal

pub returns : goal.returns
returns c =
    same_among c.args.addresses.items c.sort_unstable.new.self.items
    c.sort_unstable.ensures.permutation
