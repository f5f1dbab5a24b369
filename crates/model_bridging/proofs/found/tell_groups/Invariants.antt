use Rattle.std.proofs.Common.{◌≡◌, ◌++◌, List, map}
use Rattle.aff_core.specs.Address.{Address}
use Rattle.fresh_bridging.specs.ModelImage.{group_item}
use Rattle.model_bridging.specs.Found.{kept_over}
use Rattle.model_bridging.specs.Kinds.{told}
use Rattle.model_bridging.proofs.found.tell_groups.Given as goal

-- the groups that were taken, from the last on, are entered
abbrev pub invariant-loop-group : goal.invariant-loop-group
invariant-loop-group g l =
    (taken : List _) × (l.groups ≡ l.group-iterator.iter.rest.now ++ taken)
    × ((v : Address) → told l.kept v ≡ kept_over (g.R.Rewriter.means l.rewriter).choice
    (told l.fn.kept) (map group_item (map (λ x. x.now) taken)) v)
