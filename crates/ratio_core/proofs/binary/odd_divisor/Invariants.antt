use Rattle.std.proofs.Common.{◌≡◌, ◌+◌, ◌%◌}
use Rattle.ratio_core.specs.Gcd.{gcd}
use Rattle.ratio_core.proofs.binary.odd_divisor.Given as goal

abbrev pub invariant-loop-x : goal.invariant-loop-x
invariant-loop-x l = record {
  left : l.x % 2 ≡ 1;
  right : l.y % 2 ≡ 1;
  same : gcd l.x l.y ≡ gcd l.fn.a l.fn.b;
}

abbrev pub decreases-loop-x : goal.decreases-loop-x
decreases-loop-x l = l.x + l.y
