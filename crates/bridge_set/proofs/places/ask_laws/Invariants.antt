use Rattle.std.proofs.Common.{ℕ, ◌<◌, map}
use Rattle.std.specs.Prelude.{slice_index_or}
use Rattle.item_core.specs.declared.family.Family.{Family}
use Rattle.bridge_face.specs.Law.{IsLawful}
use Rattle.bridge_set.specs.Bridges.{families_of}
use Rattle.bridge_set.proofs.places.ask_laws.Given as goal

abbrev pub invariant-loop-bridge : goal.invariant-loop-bridge
invariant-loop-bridge g l =
    (k : ℕ) (d : Family) → k < l.bridge-index
    → IsLawful (slice_index_or (families_of (map g.B.Bridge.state l.bridges)) k d)
