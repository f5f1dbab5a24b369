use Rattle.std.proofs.Common.{◌≡◌, ◌++◌, List, map}
use Rattle.aff_core.specs.Address.{Address}
use Rattle.user_model.specs.declared.group.Group.{Group}
use Rattle.fresh_bridging.specs.ModelImage.{group_item}
use Rattle.model_bridging.specs.Kinds.{is_kept_by, told}
use Rattle.model_bridging.proofs.kinds.kept_variables.Given as goal

-- the groups that were taken, from the last on, are entered
abbrev pub invariant-loop-group : goal.invariant-loop-group
invariant-loop-group g l =
    (taken : List Group) × (l.groups.items ≡ l.group-iterator.iter ++ taken)
    × ((v : Address) → told l.kept v ≡ is_kept_by (g.R.Rewriter.means l.rewriter).choice
    (map group_item taken) v)
