use Rattle.std.proofs.Common.{◌≡◌, drop}
use Rattle.serde_json.specs.View.{items_view}
use Rattle.mof_values.specs.Walked.{each}
use Rattle.mof_file.proofs.items.add_each.Given as goal

-- what is left, from what was added so far, gives what all of it gives
abbrev pub invariant-loop-place : goal.invariant-loop-place
invariant-loop-place g l =
    let step = g.S.AddItem.with_item l.known in
    each step l.place (g.S.AddItem.seen l.sum) (items_view (drop l.place l.items))
    ≡ each step 0 (g.S.AddItem.seen l.initial.sum) (items_view l.items)
