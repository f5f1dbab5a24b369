use Rattle.std.proofs.Common.{map, take}
use Rattle.found_plan.specs.Marked.{TellsMarks, plain_in}
use Rattle.found_plan.proofs.kinds.tell_rows.Given as goal

abbrev pub invariant-loop-row : goal.invariant-loop-row
invariant-loop-row l =
    TellsMarks l.map (plain_in (map (λ r. r.now) (take l.row-index l.rows))) l.fn.kept l.kept
