use Rattle.std.proofs.Common.{◌≡◌, length}
use Rattle.numbered_list.specs.Listed.{present}
use Rattle.numbered_list.proofs.items.NumberedItemsIterator.next.Given as goal

abbrev pub invariant-loop-first : goal.invariant-loop-first
invariant-loop-first g l =
    present l.self-inside.places.now ≡ present l.initial.self-inside.places.now

abbrev pub decreases-loop-first : goal.decreases-loop-first
decreases-loop-first g l = length l.self-inside.places.now
