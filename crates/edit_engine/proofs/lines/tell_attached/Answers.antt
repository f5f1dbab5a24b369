use Rattle.std.proofs.Common.{ap, ◌∙◌}
use Rattle.edit_engine.specs.Script.{attach_answer}
use Rattle.edit_engine.proofs.Steps.{reported}
use Rattle.edit_engine.proofs.lines.tell_attached.Goals as goal

pub returns-in-Err : goal.returns-in-Err
returns-in-Err c =
    reported c.tell_refusal.result _ _ c.tell_refusal.ensures.answer
    (ap attach_answer c.in-Err.is ∙ c.attach_refusal.ensures)
