use Rattle.std.proofs.Common.{drop}
use Rattle.sparse_lists.specs.JoinedLaws.{IsAppendedTo}
use Rattle.sparse_lists.proofs.joining.append.Given as goal

abbrev pub invariant-loop-term : goal.invariant-loop-term
invariant-loop-term l =
    IsAppendedTo l.initial.all l.list (drop l.term-index l.term-items) l.all
