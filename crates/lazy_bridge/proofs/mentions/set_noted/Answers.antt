use Rattle.lazy_bridge.proofs.Noting.{noted_if, told_as, unnoted_one}
use Rattle.lazy_bridge.proofs.mentions.set_noted.Goals as goal

pub returns-then-noted-clause-noted : goal.returns-then-noted-clause-noted
returns-then-noted-clause-noted c =
    noted_if c.note_once.result (told_as c.args.noted _ c.if-noted.true _ _ _)
    c.note_once.ensures.noted

pub returns-clause-noted : goal.returns-clause-noted
returns-clause-noted c =
    told_as c.args.noted _ c.if-noted.false _ _ _
    (unnoted_one c.args.map.now.noted c.unnote-stood.new.self.noted c.args.var c.args.item
    c.unnote-stood.ensures.taken)
