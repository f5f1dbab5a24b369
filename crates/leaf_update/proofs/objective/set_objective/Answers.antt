use Rattle.fresh_bridging.specs.Leaves.{leaf_objectives}
use Rattle.leaf_update.specs.Named.{ObjectiveNames}
use Rattle.leaf_update.proofs.ObjectiveSteps.{objective_body, objective_own}
use Rattle.leaf_update.proofs.objective.set_objective.Goals as goal

pub count_differing-changed-requires-clause-names : goal.count_differing-changed-requires-clause-names
count_differing-changed-requires-clause-names c =
    objective_own (ObjectiveNames c.args.map.now.vars.indices) c.in_ok-objective.field-0
    c.in-Some.objective c.in-Some.is c.in_ok-objective.ensures.names

pub count_differing-changed-requires-clause-read : goal.count_differing-changed-requires-clause-read
count_differing-changed-requires-clause-read c =
    let item = c.args.leaf.now in
    objective_body c.args.map.now.vars.indices item.at item.body c.in_ok-objective.field-0
    c.in-Some.objective (leaf_objectives item) c.in_ok-objective.ensures.objective
    c.requires.objective c.in-Some.is
