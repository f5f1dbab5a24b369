use Rattle.std.proofs.Common.{◌≡◌, ◌++◌, codes, drop, flat_map}
use Rattle.conflict_command.specs.Text.{named_line}
use Rattle.conflict_command.proofs.printing.push_each.Given as goal

abbrev pub invariant-loop-name : goal.invariant-loop-name
invariant-loop-name l =
    l.draft ++ flat_map (named_line (codes "row ")) (drop l.name-index l.rows)
    ≡ l.fn.draft ++ flat_map (named_line (codes "row ")) l.rows
