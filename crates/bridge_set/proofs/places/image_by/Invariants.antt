use Rattle.std.proofs.Common.{◌≡◌, drop}
use Rattle.std.specs.List.{list_any}
use Rattle.bridge_set.proofs.Stands.{is_of}
use Rattle.bridge_set.proofs.places.image_by.Given as goal

abbrev pub invariant-loop-bridge : goal.invariant-loop-bridge
invariant-loop-bridge g l =
    (l.bridges ≡ l.fn.bridges)
    × (list_any (is_of g.B.Bridge.state l.family) (drop l.bridge-index l.bridges)
    ≡ list_any (is_of g.B.Bridge.state l.family) l.bridges)
