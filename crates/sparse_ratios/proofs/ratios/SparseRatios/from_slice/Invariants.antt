use Rattle.std.proofs.Common.{◌≡◌, take}
use Rattle.sparse_ratios.proofs.ratios.SparseRatios.from_slice.Given as goal

abbrev pub invariant-loop-place : goal.invariant-loop-place
invariant-loop-place l = l.list ≡ take l.place l.numbers
