use Rattle.std.proofs.Common.{◌≡◌, ◌^◌, ◌<◌, drop}
use Rattle.ratio_core.proofs.Digits.{part_after}
use Rattle.ratio_core.proofs.text.read_part.Given as goal

abbrev pub invariant-loop-byte : goal.invariant-loop-byte
invariant-loop-byte l = record {
  same : part_after l.value (drop l.byte-index l.text) ≡ part_after 0 l.text;
  small : l.value < 2 ^ 127;
}
