use Rattle.std.proofs.Common.{◌≡◌, ◌<◌, ◌^◌, drop}
use Rattle.std.specs.Str.Parse.{digits_value_after}
use Rattle.mof_text.proofs.digits.value_after.Given as goal

abbrev pub invariant-loop-digit : goal.invariant-loop-digit
invariant-loop-digit l = record {
  small : l.value < 2 ^ 127;
  same : digits_value_after 10 l.value (drop l.digit-index l.digits)
      ≡ digits_value_after 10 l.fn.first l.digits;
}
