use Rattle.bland_rule_laws.specs.Bounded.{bounded, unlimited}
use Rattle.bland_rule_laws.specs.Cycles.{most_steps}
use Rattle.bland_rule_laws.specs.NeverRepeats.{never_repeats}
use Rattle.simplex_core.proofs.Right.{standard_form}
use Rattle.simplex_core.specs.StdForm.{equality_form}
use Rattle.bland_run.proofs.Ends.{ends_trail}
use Rattle.bland_run.proofs.small.solve_small.Goals as goal

pub returns-clause-end : goal.returns-clause-end
returns-clause-end c =
    let F = equality_form c.args.form.now in
    ends_trail F (most_steps F) c.solve_to_end.result c.solve_to_end.ensures.outcome

pub returns-clause-never_repeats : goal.returns-clause-never_repeats
returns-clause-never_repeats c =
    never_repeats (equality_form c.args.form.now) (standard_form c.args.form.now c.requires.shape)

pub returns-clause-bounded : goal.returns-clause-bounded
returns-clause-bounded c =
    bounded (equality_form c.args.form.now) (standard_form c.args.form.now c.requires.shape)

pub returns-clause-unlimited : goal.returns-clause-unlimited
returns-clause-unlimited c =
    unlimited (equality_form c.args.form.now) (standard_form c.args.form.now c.requires.shape)
