use Rattle.std.proofs.Common.{◌≡◌, drop, map}
use Rattle.lazy_bridge.specs.Mentioned.{row_names}
use Rattle.lazy_bridge.proofs.Noting.{IsNoting}
use Rattle.lazy_bridge.proofs.mentions.note_found.Given as goal

abbrev pub invariant-loop-row : goal.invariant-loop-row
invariant-loop-row l =
    IsNoting row_names l.noted (map (λ r. r.now) l.rows) (map (λ r. r.now) (drop l.row-index l.rows))
    l.fn.map.noted l.map.noted
    × (l.map.vars ≡ l.fn.map.vars) × (l.map.rows ≡ l.fn.map.rows)
    × (l.map.exprs ≡ l.fn.map.exprs) × (l.map.kept ≡ l.fn.map.kept)
