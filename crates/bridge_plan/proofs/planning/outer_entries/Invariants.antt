use Rattle.std.proofs.Common.{◌≡◌, ◌++◌, drop}
use Rattle.std.specs.List.{list_all}
use Rattle.item_core.specs.Item.{variables_of}
use Rattle.fresh_bridging.specs.Entries.{put_into_fits}
use Rattle.bridge_plan.proofs.Outer.{outer}
use Rattle.bridge_plan.proofs.planning.outer_entries.Given as goal

abbrev pub invariant-loop-i : goal.invariant-loop-i
invariant-loop-i l =
    let inner = l.fn.standing in
    let vars = variables_of l.body in
    (list_all (put_into_fits inner) (drop l.i l.exprs) ≡ list_all (put_into_fits inner) l.exprs)
    × (l.entries.items ++ outer inner (drop l.i vars) (drop l.i l.exprs)
    ≡ l.initial.entries.items ++ outer inner vars l.exprs)
    × (l.standing ≡ inner)
