use Rattle.std.specs.Prelude.{map}
use Rattle.found_plan.specs.Read.{is_marked}
use Rattle.fresh_bridging.specs.ModelImage.{group_item}
use Rattle.table_change.specs.Given.{is_given, passes}
use Rattle.table_change.proofs.FoundSteps.{IsFinding}
use Rattle.table_change.proofs.found.find_groups.Given as goal
use Rattle.user_model.specs.declared.group.Group.{Group}

abbrev pub invariant-loop-group : goal.invariant-loop-group
invariant-loop-group l =
    IsFinding (λ (x : Group). is_given (passes l.changed) (is_marked l.map) (group_item x))
    l.groups.items l.group-iterator (map (λ x. x.now) l.list.items)
