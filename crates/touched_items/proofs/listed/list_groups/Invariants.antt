use Rattle.std.proofs.Common.{◌≡◌, ◌++◌, drop, flat_map}
use Rattle.std.specs.Prelude.{map}
use Rattle.touched_items.proofs.listed.list_groups.Given as goal

abbrev pub invariant-loop-undo : goal.invariant-loop-undo
invariant-loop-undo l =
    map (λ c. c.now) l.changes.items ++ flat_map (λ u. u.groups) (drop l.undo-index l.undos)
    ≡ flat_map (λ u. u.groups) l.undos
