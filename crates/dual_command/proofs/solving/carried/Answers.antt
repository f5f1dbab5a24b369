use Rattle.dual_command.proofs.Told.{says_best, says_uncarried}
use Rattle.dual_command.proofs.solving.carried.Goals as goal

pub returns-in-Ok : goal.returns-in-Ok
returns-in-Ok c =
    says_best c.args.model.now.model c.best_duals.result c.args.value.now c.args.x.now
    c.in-Ok.carried c.requires.best c.in-Ok.ensures.carried c.best_duals.ensures

pub returns-in-Err-Overflow : goal.returns-in-Err-Overflow
returns-in-Err-Overflow c =
    says_uncarried c.args.model.now.model c.refusal.result c.args.value.now c.args.x.now
    c.in-Err-Overflow.place (rw c.in-Err-Overflow.field-0-is at c.in-Err-Overflow.ensures.carried)
    c.refusal.ensures
