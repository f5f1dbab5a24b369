use Rattle.std.proofs.Common.{◌≡◌, drop}
use Rattle.std.specs.Prelude.{map}
use Rattle.adjoint_core.specs.Walk.{kept_at}
use Rattle.adjoint_core.proofs.rows.find_keeper.Given as goal

abbrev pub invariant-loop-bridge : goal.invariant-loop-bridge
invariant-loop-bridge g l =
    kept_at (map g.B.Bridge.state (drop l.bridge-index l.bridges)) l.at
    ≡ kept_at (map g.B.Bridge.state l.bridges) l.at
