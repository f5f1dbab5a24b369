use Rattle.named_aff.proofs.Apart.{distinct_last}
use Rattle.named_aff.proofs.sum.put_last.Goals as goal

pub push-requires : goal.push-requires
push-requires c = distinct_last c.args.terms.now c.args.term c.requires.distinct c.requires.none
