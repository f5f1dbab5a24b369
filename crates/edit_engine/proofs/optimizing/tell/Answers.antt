use Rattle.std.proofs.Common.{ap, ◌∙◌}
use Rattle.edit_engine.specs.Script.{optimize_answer}
use Rattle.edit_engine.proofs.Steps.{reported}
use Rattle.edit_engine.proofs.optimizing.tell.Goals as goal

pub returns-in-Err : goal.returns-in-Err
returns-in-Err c =
    let model = c.args.model.now.model in
    reported c.tell_refusal.result _ _ c.tell_refusal.ensures.answer
    (ap (optimize_answer model) c.in-Err.is ∙ c.optimize_refusal.ensures model)
