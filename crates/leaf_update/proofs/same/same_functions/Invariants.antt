use Rattle.std.proofs.Common.{◌≡◌, take, length}
use Rattle.leaf_update.proofs.same.same_functions.Given as goal

abbrev pub invariant-loop-func : goal.invariant-loop-func
invariant-loop-func l = take (length l.yielded) l.one ≡ take (length l.yielded) l.other
