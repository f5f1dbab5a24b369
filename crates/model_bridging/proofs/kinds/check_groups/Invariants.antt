use Rattle.std.proofs.Common.{◌≡◌, map}
use Rattle.fresh_bridging.specs.ModelImage.{group_item}
use Rattle.model_bridging.specs.Kinds.{first_missing, kinds_as_they_stand}
use Rattle.model_bridging.proofs.kinds.check_groups.Given as goal

abbrev pub invariant-loop-group : goal.invariant-loop-group
invariant-loop-group g l =
    let choice = (g.R.Rewriter.means l.rewriter).choice in
    first_missing choice (kinds_as_they_stand (map group_item l.group-iterator))
    ≡ first_missing choice (kinds_as_they_stand (map group_item l.groups.items))
