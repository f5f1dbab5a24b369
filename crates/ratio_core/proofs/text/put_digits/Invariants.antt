use Rattle.std.proofs.Common.{◌≡◌, ◌+◌, ◌-◌, ◌^◌, ◌<◌, ◌≤◌, ◌++◌, decimal, drop, false, length}
use Rattle.std.specs.Fmt.{digits_onto}
use Rattle.ratio_core.proofs.text.put_digits.Given as goal

abbrev pub invariant-loop-rest : goal.invariant-loop-rest
invariant-loop-rest l = record {
  within : l.start ≤ l.fn.end;
  room : l.fn.end < l.start + 39;
  below : l.rest < 10 ^ (l.start + 39 - l.fn.end);
  length : length l.text ≡ 80;
  written : digits_onto (l.start + 64 - l.fn.end) 10 false l.rest (drop l.start l.text)
      ≡ decimal l.fn.n ++ drop l.fn.end l.fn.text;
}

abbrev pub decreases-loop-rest : goal.decreases-loop-rest
decreases-loop-rest l = l.start
