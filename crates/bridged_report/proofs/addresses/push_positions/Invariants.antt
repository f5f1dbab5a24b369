use Rattle.std.proofs.Common.{◌≡◌, ◌++◌, flat_map, drop}
use Rattle.bridged_report.specs.Addresses.{position_text}
use Rattle.bridged_report.proofs.addresses.push_positions.Given as goal

-- with those that are left it is all of them
abbrev pub invariant-loop-position : goal.invariant-loop-position
invariant-loop-position l =
    l.draft ++ flat_map position_text (drop l.position-index l.positions) ≡ l.fn.draft ++ flat_map
    position_text l.fn.positions
