use Rattle.bridge_set.proofs.Choices.{choice_is}
use Rattle.bridge_set.proofs.choosing.choice_at.Goals as goal

pub returns : goal.returns
returns c =
    choice_is c.args.graph.now c.args.kind c.choice.result c.choice.ensures.native.0
    (λ edge. (c.choice.ensures.by edge).0) c.choice.ensures.missing.0
