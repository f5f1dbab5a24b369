use Rattle.std.proofs.Common.{◌≡◌, map}
use Rattle.std.specs.List.{range_with_len}
use Rattle.aff_core.specs.Address.{child_of}
use Rattle.bridge_face.proofs.groups.components.Given as goal

abbrev pub invariant-loop-component : goal.invariant-loop-component
invariant-loop-component l = l.vars.items ≡ map (child_of l.at) (range_with_len 0 l.component)
