use Rattle.std.proofs.Common.{◌≡◌, map, take}
use Rattle.equality_form.specs.Columns.{slacks_from}
use Rattle.std_form.specs.Borrowed.{equation_in}
use Rattle.std_form.proofs.cells.slacks.Given as goal

abbrev pub invariant-loop-i : goal.invariant-loop-i
invariant-loop-i l = l.slacks.items ≡ slacks_from 0 (map equation_in (take l.i l.equations))
