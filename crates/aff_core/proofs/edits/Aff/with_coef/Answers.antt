use Rattle.std.proofs.lemmas.Result.{IfOk-weaker}
use Rattle.aff_core.specs.FunctionLaws.{has_coefficient}
use Rattle.aff_core.specs.KeyOrder.{address_order}
use Rattle.aff_core.proofs.edits.Aff.with_coef.Goals as goal

pub returns-in-Ok-clause-coefficients : goal.returns-in-Ok-clause-coefficients
returns-in-Ok-clause-coefficients c =
    IfOk-weaker c.replaced.result _ _ (has_coefficient address_order c.args.self.now c.args.at.now
    c.args.value) c.replaced.ensures

pub returns-in-Err-clause-coefficients : goal.returns-in-Err-clause-coefficients
returns-in-Err-clause-coefficients c =
    IfOk-weaker c.replaced-in-Err.result _ _ (has_coefficient address_order c.args.self.now
    c.args.at.now c.args.value) c.replaced-in-Err.ensures
