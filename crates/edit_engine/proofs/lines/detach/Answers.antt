use Rattle.edit_engine.proofs.FewTold.{few_none}
use Rattle.edit_engine.proofs.lines.detach.Goals as goal

pub returns-in-Ok-clause-few : goal.returns-in-Ok-clause-few
returns-in-Ok-clause-few g c =
    few_none c.done.result c.args.cache.now.lazy c.detach.new.self.lazy c.detach.ensures.few

pub returns-in-Err-clause-few : goal.returns-in-Err-clause-few
returns-in-Err-clause-few g c =
    few_none c.refuse.result c.args.cache.now.lazy c.detach.new.self.lazy c.detach.ensures.few
