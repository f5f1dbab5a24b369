use Rattle.std.proofs.Common.{◌≡◌, ◌<◌, ℕ, false, map}
use Rattle.std.specs.Prelude.{slice_index_or}
use Rattle.item_core.specs.declared.edge.EdgeEntry.{EdgeEntry}
use Rattle.fresh_bridging.specs.TheRules.{is_usable}
use Rattle.bridge_set.specs.Bridges.{setting_by}
use Rattle.bridge_set.proofs.choosing.write_usable.Given as goal

abbrev pub invariant-loop-n : goal.invariant-loop-n
invariant-loop-n g l =
    (k : ℕ) → k < l.n
    → slice_index_or l.on k false
    ≡ slice_index_or (map (λ (row : EdgeEntry). is_usable
    (setting_by l.table (map g.B.Bridge.state l.bridges)) row.family) l.rows) k false
