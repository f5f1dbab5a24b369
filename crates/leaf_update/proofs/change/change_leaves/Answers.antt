use Rattle.std.proofs.Common.{arith, ◌≡◌, ◌+◌, List, All, length, sym, subst, ◌∙◌}
use Rattle.std.specs.Prelude.{IsSome, flat_map}
use Rattle.std.specs.FinMap as finite
use Rattle.aff_core.specs.Address.{Address}
use Rattle.fresh_bridging.specs.Leaves.{leaf_objectives}
use Rattle.leaf_update.specs.Puts.{variables_in}
use Rattle.leaf_update.proofs.change.change_leaves.Goals as goal
use Rattle.leaf_update.proofs.Composed.{droppable, objective_indexed, rows_indexed, rows_there, spliced_into}
use Rattle.leaf_update.specs.Phases.{AreDroppable, CountsAt, DropsRows, HasDropped}
use Rattle.leaf_update.specs.Splice.{IsSplicedInto, gone_in, without_all}
use Rattle.leaf_update.specs.Objective.{ChangesObjective}

pub set_rows-requires-clause-indexed : goal.set_rows-requires-clause-indexed
set_rows-requires-clause-indexed c =
    rows_indexed c.args.map.now c.args.solver.now.leaves c.args.objective_at.now
    (gone_in c.args.gone.now) c.args.leaves.now c.requires.named c.requires.splice
    c.set_variables.new.map c.set_variables.new.solver.leaves c.in_ok-variables.variables
    c.in_ok-variables.ensures.set

pub change_objective-requires-clause-indexed : goal.change_objective-requires-clause-indexed
change_objective-requires-clause-indexed c =
    objective_indexed c.args.map.now c.args.solver.now.leaves c.args.objective_at.now
    (gone_in c.args.gone.now) c.args.leaves.now c.requires.named c.requires.splice
    c.set_variables.new.map c.set_variables.new.solver.leaves c.in_ok-variables.variables
    c.in_ok-variables.ensures.set c.set_rows.new.map c.set_rows.new.solver.leaves
    c.in_ok-rows.rows c.in_ok-rows.ensures.set

pub drop_rows-requires-clause-there : goal.drop_rows-requires-clause-there
drop_rows-requires-clause-there c =
    let third = subst (λ g. ChangesObjective c.set_rows.new.map c.set_rows.new.solver.leaves
    c.args.objective_at.now g (flat_map leaf_objectives c.args.leaves.now)
    c.in_ok-objective.objective c.change_objective.new.solver.leaves c.change_objective.new.at)
    c.deref.ensures.value c.in_ok-objective.ensures.changed in
    subst (All (λ at. IsSome (finite.get c.set_rows.new.map.rows.indices at)))
    (sym c.deref-2.ensures.value)
    (rows_there c.args.map.now c.args.solver.now.leaves c.args.objective_at.now
    (gone_in c.args.gone.now) c.args.leaves.now c.requires.named c.requires.splice
    c.set_variables.new.map c.set_variables.new.solver.leaves c.in_ok-variables.variables
    c.in_ok-variables.ensures.set c.set_rows.new.map c.set_rows.new.solver.leaves
    c.in_ok-rows.rows c.in_ok-rows.ensures.set c.change_objective.new.solver.leaves
    c.in_ok-objective.objective c.change_objective.new.at third)

pub drop_variables-requires-clause-droppable : goal.drop_variables-requires-clause-droppable
drop_variables-requires-clause-droppable c =
    let third = subst (λ g. ChangesObjective c.set_rows.new.map c.set_rows.new.solver.leaves
    c.args.objective_at.now g (flat_map leaf_objectives c.args.leaves.now)
    c.in_ok-objective.objective c.change_objective.new.solver.leaves c.change_objective.new.at)
    c.deref.ensures.value c.in_ok-objective.ensures.changed in
    let fourth = subst (λ g. DropsRows c.set_rows.new.map c.change_objective.new.solver.leaves g
    (length g) c.drop_rows.new.map c.drop_rows.new.solver.leaves) c.deref-2.ensures.value
    c.drop_rows.ensures.dropped in
    subst (AreDroppable c.drop_rows.new.map c.drop_rows.new.solver.leaves)
    (sym c.deref-3.ensures.value)
    (droppable c.args.map.now c.args.solver.now.leaves c.args.objective_at.now
    (gone_in c.args.gone.now) c.args.leaves.now c.requires.named c.requires.splice
    c.set_variables.new.map c.set_variables.new.solver.leaves c.in_ok-variables.variables
    c.in_ok-variables.ensures.set c.set_rows.new.map c.set_rows.new.solver.leaves
    c.in_ok-rows.rows c.in_ok-rows.ensures.set c.change_objective.new.solver.leaves
    c.in_ok-objective.objective c.change_objective.new.at third c.drop_rows.new.map
    c.drop_rows.new.solver.leaves (length c.args.gone.now.rows.items) fourth)

pub returns : goal.returns
returns c =
    let third = subst (λ g. ChangesObjective c.set_rows.new.map c.set_rows.new.solver.leaves
    c.args.objective_at.now g (flat_map leaf_objectives c.args.leaves.now)
    c.in_ok-objective.objective c.change_objective.new.solver.leaves c.change_objective.new.at)
    c.deref.ensures.value c.in_ok-objective.ensures.changed in
    let fourth = subst (λ g. DropsRows c.set_rows.new.map c.change_objective.new.solver.leaves g
    (length g) c.drop_rows.new.map c.drop_rows.new.solver.leaves) c.deref-2.ensures.value
    c.drop_rows.ensures.dropped in
    let m4 = c.drop_rows.new.map in
    let l4 = c.drop_rows.new.solver.leaves in
    let m5 = c.drop_variables.new.map in
    let s5 = c.drop_variables.new.solver in
    let fifth = subst (λ (g : List Address). HasDropped m4 l4 (length g) m5 s5.leaves)
    c.deref-3.ensures.value c.drop_variables.ensures.dropped in
    let left = subst (λ g. variables_in m5 s5.leaves ≡ without_all (variables_in m4 l4) g)
    c.deref-3.ensures.value c.drop_variables.ensures.gone in
    let counts = subst (λ g. CountsAt (variables_in m4 l4) (variables_in m5 s5.leaves) g (length g))
    c.deref-3.ensures.value c.drop_variables.ensures.counts in
    let all : c.in_ok-variables.variables + c.in_ok-rows.rows + c.in_ok-objective.objective
    + length c.args.gone.now.rows.items + length c.args.gone.now.variables.items
    ≡ c.in_ok-variables.variables + c.from.result + c.from-2.result + c.len.result + c.len-2.result =
    omega (arith, c.from.ensures, c.from-2.ensures, c.len.ensures, c.len-2.ensures) in
    record {
      spliced =
          subst (λ n. IsSplicedInto c.args.solver.now c.args.map.now c.args.objective_at.now
          (gone_in c.args.gone.now) c.args.leaves.now n s5 m5 c.change_objective.new.at) all
          (spliced_into c.args.map.now c.args.solver.now c.args.objective_at.now
          (gone_in c.args.gone.now) c.args.leaves.now c.requires.named c.requires.splice
          c.set_variables.new.map c.set_variables.new.solver.leaves c.in_ok-variables.variables
          c.in_ok-variables.ensures.set c.set_rows.new.map c.set_rows.new.solver.leaves
          c.in_ok-rows.rows c.in_ok-rows.ensures.set c.change_objective.new.solver.leaves
          c.in_ok-objective.objective c.change_objective.new.at third m4 l4
          (length c.args.gone.now.rows.items) fourth m5 s5
          (length c.args.gone.now.variables.items) fifth left counts);
      rest = fifth.beside.rest ∙ fourth.beside.rest ∙ c.in_ok-rows.ensures.set.beside.rest
          ∙ c.in_ok-variables.ensures.set.beside.rest;
    }
