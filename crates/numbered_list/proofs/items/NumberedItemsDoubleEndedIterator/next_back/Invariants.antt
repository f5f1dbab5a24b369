use Rattle.std.proofs.Common.{◌≡◌, length}
use Rattle.numbered_list.specs.Listed.{present}
use Rattle.numbered_list.proofs.items.NumberedItemsDoubleEndedIterator.next_back.Given as goal

abbrev pub invariant-loop-last : goal.invariant-loop-last
invariant-loop-last g l =
    present l.self-inside.places.now ≡ present l.initial.self-inside.places.now

abbrev pub decreases-loop-last : goal.decreases-loop-last
decreases-loop-last g l = length l.self-inside.places.now
