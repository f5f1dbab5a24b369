use Rattle.std.proofs.Common.{◌≡◌, ◌++◌, drop, map}
use Rattle.std.specs.Prelude.{flat_map}
use Rattle.address_map.specs.Places.{addresses}
use Rattle.item_leaves.specs.ItemLeaves.{those_of}
use Rattle.found_plan.specs.Stood.{old_variables, own_leaves}
use Rattle.found_plan.proofs.leaves.old_variables.Given as goal
use Rattle.user_model.specs.declared.group.Group.{Group}

abbrev pub invariant-loop-group : goal.invariant-loop-group
invariant-loop-group l =
    l.had ++ flat_map (λ (g : Group). own_leaves l.map g.vars)
    (map (λ g. g.now) (drop l.group-index l.groups))
    ≡ flat_map (λ (g : Group). own_leaves l.map g.vars) (map (λ g. g.now) l.groups)

abbrev pub invariant-loop-at : goal.invariant-loop-at
invariant-loop-at l =
    l.had ++ flat_map (λ at. those_of at (addresses l.map.vars.indices)) (drop l.at-index l.items)
    ≡ old_variables l.map (map (λ g. g.now) l.groups) l.items
