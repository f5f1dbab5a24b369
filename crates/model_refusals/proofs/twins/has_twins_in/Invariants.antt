use Rattle.std.proofs.Common.{◌%◌, ◌==◌}
use Rattle.model_refusals.proofs.SeenNames.{IsAt}
use Rattle.model_refusals.proofs.twins.has_twins_in.Given as goal

abbrev pub invariant-loop-place : goal.invariant-loop-place
invariant-loop-place l = IsAt l.names (λ hash. hash % l.parts == l.part) l.place l.marks
