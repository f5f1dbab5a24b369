use Rattle.std.proofs.Common.{◌≡◌, drop, map}
use Rattle.fresh_bridging.specs.ModelImage.{group_item}
use Rattle.model_bridging.specs.Kinds.{first_missing, kinds_as_they_stand}
use Rattle.model_bridging.proofs.found.check_found_groups.Given as goal

abbrev pub invariant-loop-group : goal.invariant-loop-group
invariant-loop-group g l =
    let choice = (g.R.Rewriter.means l.rewriter).choice in
    first_missing choice
    (kinds_as_they_stand (map group_item (map (λ x. x.now) (drop l.group-index l.groups))))
    ≡ first_missing choice (kinds_as_they_stand (map group_item (map (λ x. x.now) l.groups)))
