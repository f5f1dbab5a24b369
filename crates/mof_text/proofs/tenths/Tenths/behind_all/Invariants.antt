use Rattle.std.proofs.Common.{◌≡◌, ◌+◌, ◌-◌, ◌*◌, ◌≤◌, ◌^◌, length, drop}
use Rattle.std.specs.Str.Parse.{digits_value}
use Rattle.mof_text.proofs.tenths.Tenths.behind_all.Given as goal

abbrev pub invariant-loop-place : goal.invariant-loop-place
invariant-loop-place l = record {
  within : l.place ≤ length l.digits;
  value : l.fraction.num * (10 ^ (length l.digits - l.place) * l.fn.self.den)
      ≡ (digits_value 10 (drop l.place l.digits) * l.fn.self.den + l.fn.self.num) * l.fraction.den;
}

abbrev pub decreases-loop-place : goal.decreases-loop-place
decreases-loop-place l = l.place
