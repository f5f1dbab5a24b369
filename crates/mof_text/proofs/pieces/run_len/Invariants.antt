use Rattle.std.proofs.Common.{◌≡◌, ◌+◌, drop}
use Rattle.mof_text.proofs.TextLaws.{run_size}
use Rattle.mof_text.proofs.pieces.run_len.Given as goal

abbrev pub invariant-loop-place : goal.invariant-loop-place
invariant-loop-place l = l.place + run_size (drop l.place l.text) ≡ run_size l.text
