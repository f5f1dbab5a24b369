use Rattle.std.proofs.Common.{◌≡◌, map, take}
use Rattle.any_bridge.specs.States.{fresh, state_of_any}
use Rattle.any_bridge.proofs.making.made.Given as goal

-- the families so far have their bridges
abbrev pub invariant-loop-family : goal.invariant-loop-family
invariant-loop-family l =
    map state_of_any l.bridges.items ≡ map fresh (take l.family-index l.families)
