use Rattle.std.proofs.Common.{◌≡◌, true}
use Rattle.lazy_bridge.specs.Mentioned.{row_names}
use Rattle.lazy_bridge.proofs.Noting.{IsNoting}
use Rattle.lazy_bridge.proofs.mentions.note_rows.Given as goal

abbrev pub invariant-loop-row : goal.invariant-loop-row
invariant-loop-row l =
    IsNoting row_names true l.rows.items l.row-iterator l.fn.map.noted l.map.noted
    × (l.map.vars ≡ l.fn.map.vars) × (l.map.rows ≡ l.fn.map.rows)
    × (l.map.exprs ≡ l.fn.map.exprs) × (l.map.kept ≡ l.fn.map.kept)
