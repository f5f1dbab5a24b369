use Rattle.std.proofs.Common.{◌≡◌, ◌++◌, drop, flat_map, take}
use Rattle.bland_run.proofs.form.matrix_in.Given as goal

abbrev pub invariant-loop-row : goal.invariant-loop-row
invariant-loop-row l =
    l.numbers.items ++ flat_map (take l.c) (drop l.row-index l.rows) ≡ flat_map (take l.c) l.rows
