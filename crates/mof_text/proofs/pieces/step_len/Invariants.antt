use Rattle.std.proofs.Common.{◌≡◌, ◌-◌, ◌<◌, ◌≤◌, ◌++◌, length, take, drop}
use Rattle.mof_text.specs.Rewritten.{rewritten_at}
use Rattle.mof_text.specs.Rewritten.BytePlace.{in_string}
use Rattle.mof_text.proofs.pieces.step_len.Given as goal

abbrev pub invariant-loop-place : goal.invariant-loop-place
invariant-loop-place l = record {
  some : 0 < l.place;
  within : l.place ≤ length l.text;
  kept : rewritten_at in_string l.text ≡ take l.place l.text ++ rewritten_at in_string
      (drop l.place l.text);
}

abbrev pub decreases-loop-place : goal.decreases-loop-place
decreases-loop-place l = length l.text - l.place
