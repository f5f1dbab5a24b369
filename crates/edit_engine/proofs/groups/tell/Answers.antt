use Rattle.std.proofs.Common.{ap, ◌∙◌}
use Rattle.edit_engine.specs.Script.{group_answer}
use Rattle.edit_engine.proofs.Steps.{reported}
use Rattle.edit_engine.proofs.groups.tell.Goals as goal

pub returns-in-Err : goal.returns-in-Err
returns-in-Err c =
    reported c.tell_refusal.result _ _ c.tell_refusal.ensures.answer
    (ap group_answer c.in-Err.is ∙ c.group_refusal.ensures)
