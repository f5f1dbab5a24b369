use Rattle.std_form.specs.Indexed.{leaf_at, leaves_at}
use Rattle.std_form.proofs.ListSteps.{given_more}
use Rattle.std_form.proofs.leaves.variables.Goals as goal

pub loop-entry-preserved : goal.loop-entry-preserved
loop-entry-preserved c =
    let vars = c.args.solver.now.leaves.vars in
    given_more (leaf_at vars) c.loop-entry.entry-iterator c.next.new.self c.in-Some.entry.now
    c.in-Some.ensures.steps (leaves_at c.args.map.now.vars.indices vars)
    c.loop-entry.variables.items c.push_some.new.items.items c.variable_at.result
    c.loop-entry.invariant c.variable_at.ensures c.in_ok-push_some.ensures
