use Rattle.std.proofs.Common.{◌∙◌}
use Rattle.named_aff.proofs.Linear.{sum_of_is}
use Rattle.named_aff.proofs.sum.added.Goals as goal

pub returns : goal.returns
returns c =
    c.ok.ensures.value ∙ sum_of_is c.args.first.now c.args.second.now c.add.result
    c.add.ensures.exact
