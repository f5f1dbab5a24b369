use Rattle.std.proofs.Common.{sym, ◌∙◌}
use Rattle.lazy_bridge.proofs.Noting.{noted_before, noted_if, noted_one}
use Rattle.lazy_bridge.proofs.mentions.note_once.Goals as goal

pub returns-then-is_noted-clause-noted : goal.returns-then-is_noted-clause-noted
returns-then-is_noted-clause-noted c =
    noted_before c.args.map.now.noted c.args.var c.args.item
    (sym c.is_noted.ensures.there ∙ c.if-is_noted.true)

pub returns-clause-noted : goal.returns-clause-noted
returns-clause-noted c =
    noted_if c.note.result
    (noted_one c.args.map.now.noted c.note.new.self.noted c.args.var c.args.item)
    c.note.ensures.ok
