use Rattle.simplex_core.proofs.Right.{standard_form}
use Rattle.simplex_core.specs.StdForm.{equality_form}
use Rattle.bland_run.proofs.Ends.{answered_small, no_limit, told_small}
use Rattle.bland_run.proofs.small.solve_to_end.Goals as goal

pub small_fault-requires : goal.small_fault-requires
small_fault-requires c =
    no_limit (equality_form c.args.form.now) (standard_form c.args.form.now c.requires.shape)
    c.most_pivots.result c.most_pivots.ensures c.in-Err.fault c.in-Err.ensures.outcome

pub returns-in-Ok-clause-outcome : goal.returns-in-Ok-clause-outcome
returns-in-Ok-clause-outcome c =
    answered_small (equality_form c.args.form.now) c.most_pivots.result c.in-Ok.answer
    c.most_pivots.ensures c.in-Ok.ensures.outcome

pub returns-in-Err-clause-outcome : goal.returns-in-Err-clause-outcome
returns-in-Err-clause-outcome c =
    told_small (equality_form c.args.form.now) c.most_pivots.result c.in-Err.fault
    c.small_fault.result c.most_pivots.ensures c.in-Err.ensures.outcome c.small_fault.ensures
