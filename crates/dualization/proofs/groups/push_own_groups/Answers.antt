use Rattle.std.specs.Prelude.{◌+◌, ◌++◌, map}
use Rattle.std.proofs.Common.{◌∙◌, ap}
use Rattle.cert_core.specs.CountedLaws.{counted_next}
use Rattle.dual_model.specs.DualOf.{each_placed, group_groups}
use Rattle.dualization.specs.DualEdits.{edit_of_group}
use Rattle.dualization.proofs.EditLemmas.{next_placed}
use Rattle.dualization.proofs.LoopLemmas.{rest_more}
use Rattle.dualization.proofs.groups.push_own_groups.Goals as goal

pub loop-i-preserved : goal.loop-i-preserved
loop-i-preserved c =
    let all = c.args.groups.now.items in
    let x = c.in-Some.group.now in
    let left = c.loop-i.group-iterator in
    let rest = c.next.new.self in
    let i = c.loop-i.i in
    let steps = c.in-Some.ensures.steps in (
      rest_more c.loop-i.edits.items c.push_own.new.edits.items
          (map edit_of_group (group_groups (i + 1) x))
          (map edit_of_group (each_placed group_groups ((i + 1) + 1) rest))
          (map edit_of_group (each_placed group_groups (i + 1) left))
          (c.args.edits.now.items ++ map edit_of_group (each_placed group_groups 1 all))
          c.loop-i.invariant.0
          (ap (λ xs. map edit_of_group (each_placed group_groups (i + 1) xs)) steps
          ∙ next_placed group_groups (i + 1) x rest)
          (c.in_ok-push_own.ensures),
      (counted_next all left i c.loop-i.invariant.1 rest x steps).rest_is,
    )
