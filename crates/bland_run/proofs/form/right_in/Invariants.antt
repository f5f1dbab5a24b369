use Rattle.std.proofs.Common.{◌≡◌, ◌++◌, drop, map}
use Rattle.bland_run.specs.Forms.{right_of}
use Rattle.bland_run.proofs.form.right_in.Given as goal

abbrev pub invariant-loop-row : goal.invariant-loop-row
invariant-loop-row l =
    l.right.items ++ map (right_of l.c) (drop l.row-index l.rows) ≡ map (right_of l.c) l.rows
