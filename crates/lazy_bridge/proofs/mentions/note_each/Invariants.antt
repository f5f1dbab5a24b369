use Rattle.std.proofs.Common.{◌≡◌, drop}
use Rattle.lazy_bridge.proofs.Noting.{IsNoting, var_names}
use Rattle.lazy_bridge.proofs.mentions.note_each.Given as goal

abbrev pub invariant-loop-var : goal.invariant-loop-var
invariant-loop-var l =
    IsNoting (var_names l.item) l.noted l.vars (drop l.var-index l.vars) l.fn.map.noted l.map.noted
    × (l.map.vars ≡ l.fn.map.vars) × (l.map.rows ≡ l.fn.map.rows)
    × (l.map.exprs ≡ l.fn.map.exprs) × (l.map.kept ≡ l.fn.map.kept)
