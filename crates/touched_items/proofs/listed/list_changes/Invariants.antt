use Rattle.std.proofs.Common.{◌≡◌, ◌++◌, drop}
use Rattle.std.specs.Prelude.{map}
use Rattle.touched_items.proofs.listed.list_changes.Given as goal

abbrev pub invariant-loop-change : goal.invariant-loop-change
invariant-loop-change g l =
    map (λ c. c.now) l.list.items ++ drop l.change-index l.changes
    ≡ map (λ c. c.now) l.initial.list.items ++ l.changes
