use Rattle.std.proofs.Common.{◌-◌, length}
use Rattle.mof_text.proofs.TextLaws.{IsRewrittenSoFar}
use Rattle.mof_text.proofs.rewriting.exact_numerals.Given as goal

abbrev pub invariant-loop-place : goal.invariant-loop-place
invariant-loop-place l = IsRewrittenSoFar l.text l.exact.items l.copied l.place

abbrev pub decreases-loop-place : goal.decreases-loop-place
decreases-loop-place l = length l.text - l.place
