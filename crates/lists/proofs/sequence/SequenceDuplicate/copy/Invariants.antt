use Rattle.std.proofs.Common.{◌≡◌, take}
use Rattle.lists.proofs.sequence.SequenceDuplicate.copy.Given as goal

-- the values so far are copied
abbrev pub invariant-loop-value : goal.invariant-loop-value
invariant-loop-value g l = l.copies.items ≡ take l.value-index l.value-items
