use Rattle.std.proofs.Common.{◌≡◌, ◌-◌, ◌^◌, length, min, take}
use Rattle.equality_form.specs.Columns.{parts_among}
use Rattle.std_form.proofs.cells.part_count.Given as goal

abbrev pub invariant-loop-var : goal.invariant-loop-var
invariant-loop-var l =
    l.count ≡ min (length (parts_among (take l.var-index l.variables))) (2 ^ 64 - 1)
