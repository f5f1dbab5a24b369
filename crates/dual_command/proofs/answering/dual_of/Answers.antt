use Rattle.dual_command.proofs.Made.{dual_made, dual_unfit}
use Rattle.dual_command.proofs.answering.dual_of.Goals as goal

pub returns-in-Ok : goal.returns-in-Ok
returns-in-Ok c =
    dual_made c.args.model.now.model c.in-Ok.edits c.into_vec.result.items c.in-Ok.ensures.dual
    c.in-Ok.ensures.made c.in-Ok.ensures.limits c.into_vec.ensures c.model_by.result
    c.model_by.ensures

pub returns-in-Err-Overflow : goal.returns-in-Err-Overflow
returns-in-Err-Overflow c =
    let unfit = rw c.in-Err-Overflow.field-0-is at c.in-Err-Overflow.ensures.dual in
    dual_unfit c.args.model.now.model c.in-Err-Overflow.place c.refusal.result c.unwrap_or.result
    unfit c.refusal.ensures c.unwrap_or.ensures
