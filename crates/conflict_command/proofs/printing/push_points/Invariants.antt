use Rattle.std.proofs.Common.{◌≡◌, ◌++◌, drop, flat_map}
use Rattle.std.specs.List.{zip}
use Rattle.certificates.specs.Points.{variables_of}
use Rattle.conflict_command.specs.Text.{without_text}
use Rattle.conflict_command.proofs.printing.push_points.Given as goal

abbrev pub invariant-loop-i : goal.invariant-loop-i
invariant-loop-i l =
    l.draft ++ flat_map (without_text (variables_of l.model.model.groups))
    (zip (drop l.i l.rows) (drop l.i l.points))
    ≡ l.fn.draft ++ flat_map (without_text (variables_of l.model.model.groups))
    (zip l.rows l.points)
