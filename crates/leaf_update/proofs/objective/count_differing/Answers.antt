use Rattle.std.proofs.Common.{◌∙◌, Some, ap, sym}
use Rattle.std.specs.Option.{option_copied, option_map}
use Rattle.leaf_model.specs.ReadThrough.{read_objective}
use Rattle.leaf_update.proofs.objective.count_differing.Goals as goal
use Rattle.leaf_update.proofs.ObjectiveSteps.{held_none, held_same, held_some, one_new, one_other, other_from_test, other_read, same_from_test, same_read, two_other}

pub returns-in_default-clause-counted : goal.returns-in_default-clause-counted
returns-in_default-clause-counted c =
    one_new c.args.at.now c.args.leaf.now.at c.args.leaf.now.body _
    (held_none c.args.map.now c.args.solver.now.leaves c.args.at.now
    (sym c.objective.ensures ∙ ap option_copied c.in_default.is))

pub returns-then-ne-clause-counted : goal.returns-then-ne-clause-counted
returns-then-ne-clause-counted c =
    two_other c.args.at.now c.args.leaf.now.at c.args.leaf.now.body _
    (read_objective c.args.map.now.vars.indices c.in-Some.held.now)
    (held_some c.args.map.now c.args.solver.now.leaves c.args.at.now c.in-Some.held.now
    (sym c.objective.ensures ∙ ap option_copied c.in-Some.is))
    (other_from_test c.args.leaf.now.at c.args.at.now c.ne.result c.ne.ensures c.if-ne.true)

pub returns-then-same_objective-clause-counted : goal.returns-then-same_objective-clause-counted
returns-then-same_objective-clause-counted c =
    held_same c.args.map.now c.args.solver.now.leaves c.args.at.now c.in-Some.held.now
    c.args.leaf.now.at c.args.leaf.now.body
    (sym c.objective.ensures ∙ ap option_copied c.in-Some.is)
    (same_from_test c.args.leaf.now.at c.args.at.now c.ne.result c.ne.ensures c.if-ne.false)
    (same_read c.args.map.now c.args.solver.now.leaves c.requires.named
    c.var_at-one_to_one.ensures.one_to_one c.in-Some.held.now c.args.objective.now
    c.args.leaf.now.body (sym c.objective.ensures ∙ ap option_copied c.in-Some.is)
    c.requires.names c.requires.read c.same_objective.result c.same_objective.ensures
    c.if-same_objective.true)

pub returns-then-same_objective-clause-same : goal.returns-then-same_objective-clause-same
returns-then-same_objective-clause-same c _ = (
  sym (same_from_test c.args.leaf.now.at c.args.at.now c.ne.result c.ne.ensures c.if-ne.false),
  ap (option_map (read_objective c.args.map.now.vars.indices))
      (sym c.objective.ensures ∙ ap option_copied c.in-Some.is)
      ∙ ap Some (same_read c.args.map.now c.args.solver.now.leaves c.requires.named
      c.var_at-one_to_one.ensures.one_to_one c.in-Some.held.now c.args.objective.now
      c.args.leaf.now.body (sym c.objective.ensures ∙ ap option_copied c.in-Some.is)
      c.requires.names c.requires.read c.same_objective.result c.same_objective.ensures
      c.if-same_objective.true),
)

pub returns-clause-counted : goal.returns-clause-counted
returns-clause-counted c =
    one_other c.args.at.now c.args.leaf.now.at c.args.leaf.now.body _
    (read_objective c.args.map.now.vars.indices c.in-Some.held.now)
    (held_some c.args.map.now c.args.solver.now.leaves c.args.at.now c.in-Some.held.now
    (sym c.objective.ensures ∙ ap option_copied c.in-Some.is))
    (same_from_test c.args.leaf.now.at c.args.at.now c.ne.result c.ne.ensures c.if-ne.false)
    (other_read c.args.map.now c.args.solver.now.leaves c.requires.named
    c.var_at-one_to_one.ensures.one_to_one c.in-Some.held.now c.args.objective.now
    c.args.leaf.now.body (sym c.objective.ensures ∙ ap option_copied c.in-Some.is)
    c.requires.names c.requires.read c.same_objective.result c.same_objective.ensures
    c.if-same_objective.false)
